use Rattle.std.proofs.Common.{◌≡◌, ◌<◌, ◌+◌, ℕ, if◌then◌else◌, length, slice_index}
use Rattle.cs_claims.specs.Certificate.{is_due_in}
use Rattle.cs_classes.specs.DayMinutes.{AreRisingFrom}
use Rattle.cs_schedule.specs.Numbers.{has}
use Rattle.cs_classes.proofs.steps.add_job.Given as goal

-- what is left arrives in full
abbrev pub invariant-loop-minute : goal.invariant-loop-minute
invariant-loop-minute l =
    (length l.arrivals ≡ 1440) × ((least : ℕ) × AreRisingFrom least l.minute-iterator)
    × ((m : ℕ) → m < 1440 → slice_index l.arrivals m + (if has l.minute-iterator m then l.max else 0) ≡ slice_index l.initial.arrivals m + (if is_due_in l.class l.number m then l.max else 0))
