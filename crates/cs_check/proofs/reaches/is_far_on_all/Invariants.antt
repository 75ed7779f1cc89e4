use Rattle.std.proofs.Common.{◌≡◌, drop, map}
use Rattle.std.specs.List.{list_all}
use Rattle.cs_classes.specs.Said.{said}
use Rattle.cs_classes.specs.Used.{seen}
use Rattle.cs_classes.specs.Claim.{as_certificate}
use Rattle.cs_plan.specs.Plan.{as_plan}
use Rattle.cs_check.specs.Stretches.{clears_on}
use Rattle.cs_check.proofs.reaches.is_far_on_all.Given as goal

abbrev pub invariant-loop-used : goal.invariant-loop-used
invariant-loop-used l = list_all (clears_on (as_plan l.case.plan.now) (as_certificate (said l.case.claim.now)) l.number l.reach) (map seen l.stretches) ≡ list_all (clears_on (as_plan l.case.plan.now) (as_certificate (said l.case.claim.now)) l.number l.reach) (map seen (drop l.used-index l.stretches))
