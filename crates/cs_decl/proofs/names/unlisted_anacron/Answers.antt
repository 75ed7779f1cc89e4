use Rattle.std.proofs.Common.{◌∙◌}
use Rattle.cs_decl.proofs.Texts.{position_same, unnamed_same}
use Rattle.cs_decl.proofs.names.unlisted_anacron.Goals as goal

pub returns : goal.returns
returns c =
    let same = rw c.as_slice.ensures at c.in_ok-names.ensures in
    rw c.as_slice-2.ensures at c.unnamed_anacron.ensures ∙ position_same _ _ (λ e. unnamed_same c.in_ok-names.names.keys c.args.entries.now.groups same e.group) c.args.entries.now.anacron
