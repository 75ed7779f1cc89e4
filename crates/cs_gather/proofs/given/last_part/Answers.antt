use Rattle.std.proofs.Common.{lit<, rules}
use Rattle.cs_gather.proofs.PathLemmas.{behind, none_left}
use Rattle.cs_gather.proofs.given.last_part.Goals as goal

pub loop-behind-preserved : goal.loop-behind-preserved
loop-behind-preserved c =
    let cut = c.in-Some.ensures.byte (lit< tt) (λ w o h. h) in
    (search rules, behind c.args.path.now c.loop-behind.part.now c.in-Some.behind.now cut.2 cut.1 c.loop-behind.invariant.1)

pub returns : goal.returns
returns c = (none_left c.loop-behind.part.now (c.in_default.ensures.byte (lit< tt) (λ w o h. h)), c.loop-behind.invariant.1)
