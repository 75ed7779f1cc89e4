use Rattle.std.proofs.Common.{rules, sym}
use Rattle.cs_decl.proofs.Texts.{any_insert, any_more}
use Rattle.cs_decl.proofs.names.names_of.Goals as goal

pub loop-group-preserved : goal.loop-group-preserved
loop-group-preserved c = λ name.
    rw (c.in_ok-insert.ensures.keys, any_insert name c.loop-group.names.keys c.as_slice.result, c.as_slice.ensures, c.loop-group.invariant name)
    (sym (any_more (λ g. g.name) name c.args.groups.now c.loop-group.group-index c.group-item.result (search rules) c.group-item.is))
