use Rattle.std.proofs.Common.{sym, ◌∙◌}
use Rattle.cs_decl.specs.Faults.{twice_declared, bad_numbers, bad_groups, bad_times, bad_zone}
use Rattle.cs_decl.proofs.declarations.read_declarations.Goals as goal

pub invariant_of-result : goal.invariant_of-result
unfolding twice_declared bad_numbers bad_groups bad_times bad_zone
invariant_of-result c = sym c.in_ok-fault_of.ensures ∙ c.in-None.is
