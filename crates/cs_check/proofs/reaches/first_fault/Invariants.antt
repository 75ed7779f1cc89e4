use Rattle.std.proofs.Common.{◌≡◌, None, map}
use Rattle.std.specs.List.{range_with_len}
use Rattle.cs_theorem.specs.Faults.{ReachTooShort, first_of, unless}
use Rattle.cs_check.specs.Stretches.{is_far}
use Rattle.cs_classes.specs.Said.{said}
use Rattle.cs_classes.specs.Used.{seen}
use Rattle.cs_classes.specs.Claim.{as_certificate}
use Rattle.cs_plan.specs.Plan.{as_plan}
use Rattle.cs_check.proofs.reaches.first_fault.Given as goal

abbrev pub invariant-loop-job : goal.invariant-loop-job
invariant-loop-job l = first_of (λ j. unless (is_far (as_plan l.case.plan.now) (as_certificate (said l.case.claim.now)) (map seen l.stretches) j) (ReachTooShort j)) (range_with_len 0 l.job) ≡ None
