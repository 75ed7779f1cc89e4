use Rattle.std.proofs.Common.{◌≡◌, ℕ, ◌<◌, true, Some}
use Rattle.cs_classes.specs.Said.{said}
use Rattle.cs_classes.specs.Claim.{as_certificate}
use Rattle.cs_plan.specs.Plan.{as_plan}
use Rattle.cs_history.specs.Plan.{waits}
use Rattle.cs_check.proofs.reaches.have_reaches.Given as goal

abbrev pub invariant-loop-number : goal.invariant-loop-number
invariant-loop-number l = (j : ℕ) → j < l.number → waits (as_plan l.case.plan.now) j ≡ true → (r : ℕ) × ((as_certificate (said l.case.claim.now)).reach j ≡ Some r)
