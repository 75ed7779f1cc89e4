use Rattle.std.proofs.Common.{◌≡◌, None}
use Rattle.std.specs.List.{range_with_len}
use Rattle.cs_claims.specs.declared.class.Class.{Class}
use Rattle.cs_history.specs.Plan.{Plan}
use Rattle.cs_theorem.specs.Faults.{first_of}
use Rattle.cs_classes.specs.Work.{AreWorks, rise_of}
use Rattle.cs_classes.proofs.steps.rise_at.Given as goal

abbrev pub invariant-loop-group : goal.invariant-loop-group
invariant-loop-group l = (p : Plan) (eve day : Class) → AreWorks p eve day l.works → first_of (rise_of p eve day l.minute) (range_with_len 0 l.group) ≡ None
