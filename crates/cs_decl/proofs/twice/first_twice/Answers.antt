use Rattle.std.proofs.Common.{rules}
use Rattle.cs_decl.proofs.Texts.{twice_found, twice_later, not_true, not_false}
use Rattle.cs_decl.proofs.twice.first_twice.Goals as goal

pub returns-then-not-branch-clause-value : goal.returns-then-not-branch-clause-value
returns-then-not-branch-clause-value g c =
    twice_found g.T.Named.name_of c.loop-i.seen.keys c.loop-i.i c.args.items.now c.index-items-i.result c.name.result _ (search rules) (search rules) c.name.ensures
    (not_false _ _ c.in_ok-insert.ensures.added c.if-not-branch.true) c.loop-i.invariant

pub loop-i-preserved : goal.loop-i-preserved
loop-i-preserved g c =
    let new = not_true _ _ c.in_ok-insert.ensures.added c.if-not-branch.false in
    let k = rw new at c.in_ok-insert.ensures.keys in
    rw k (twice_later g.T.Named.name_of c.loop-i.seen.keys c.loop-i.i c.args.items.now c.index-items-i.result c.name.result _ (search rules) (search rules) c.name.ensures new c.loop-i.invariant)
