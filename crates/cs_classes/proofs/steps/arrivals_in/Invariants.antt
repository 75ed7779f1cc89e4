use Rattle.std.proofs.Common.{◌≡◌, ◌≤◌, ◌<◌, ◌*◌, ℕ, if◌then◌else◌, filter, length, slice_index}
use Rattle.cs_claims.specs.Certificate.{is_due_in}
use Rattle.cs_plan.specs.Plan.{as_plan}
use Rattle.cs_history.specs.Lists.{total, below}
use Rattle.cs_history.specs.Plan.{locks}
use Rattle.cs_classes.proofs.steps.arrivals_in.Given as goal

abbrev pub invariant-loop-number : goal.invariant-loop-number
invariant-loop-number l =
    (length l.arrivals ≡ 1440)
    × ((m : ℕ) → m < 1440 → slice_index l.arrivals m ≡ total (λ j. if locks (as_plan l.plan) l.group j then (as_plan l.plan).limit j else 0) (filter (λ j. is_due_in l.class j m) (below l.number)))
    × ((m : ℕ) → m < 1440 → slice_index l.arrivals m ≤ 4320 * l.number)
