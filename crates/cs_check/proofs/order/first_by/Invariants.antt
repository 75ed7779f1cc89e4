use Rattle.std.proofs.Common.{◌≡◌, drop, map}
use Rattle.cs_theorem.specs.Faults.{first_of}
use Rattle.cs_classes.specs.Said.{said}
use Rattle.cs_classes.specs.Used.{seen}
use Rattle.cs_classes.specs.Claim.{as_certificate}
use Rattle.cs_plan.specs.Plan.{as_plan}
use Rattle.cs_check.specs.Stretches.{fault_by}
use Rattle.cs_check.proofs.order.first_by.Given as goal

abbrev pub invariant-loop-used : goal.invariant-loop-used
invariant-loop-used l = first_of (fault_by l.rule (as_plan l.case.plan.now) (as_certificate (said l.case.claim.now)) l.case.days) (map seen l.stretches) ≡ first_of (fault_by l.rule (as_plan l.case.plan.now) (as_certificate (said l.case.claim.now)) l.case.days) (map seen (drop l.used-index l.stretches))
