use Rattle.cs_theorem.proofs.ByKind.{by_kinds}
use Rattle.cs_theorem.proofs.accepted_plans.classes_have_the_windows_of_kinds.Goals as goal

pub returns : goal.returns
returns c p on a ks due chain = by_kinds p on a due ks chain
