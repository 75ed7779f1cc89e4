use Rattle.std.proofs.Common.{◌≡◌, None}
use Rattle.std.specs.List.{range_with_len}
use Rattle.cs_plan.specs.Plan.{as_plan}
use Rattle.cs_theorem.specs.Faults.{first_of}
use Rattle.cs_classes.specs.Work.{rise_at}
use Rattle.cs_classes.proofs.steps.first_rise.Given as goal

abbrev pub invariant-loop-minute : goal.invariant-loop-minute
invariant-loop-minute l = first_of (rise_at (as_plan l.plan) l.eve l.day) (range_with_len 0 l.minute) ≡ None
