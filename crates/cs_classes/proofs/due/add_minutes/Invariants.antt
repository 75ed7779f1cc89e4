use Rattle.std.proofs.Common.{◌≡◌, ℕ, ◌<◌, ◌||◌, drop}
use Rattle.cs_daytree.specs.Tree.{has as is_listed}
use Rattle.cs_schedule.specs.Numbers.{has}
use Rattle.cs_classes.specs.DayMinutes.{AreRising}
use Rattle.cs_classes.proofs.due.add_minutes.Given as goal

abbrev pub invariant-loop-minute : goal.invariant-loop-minute
invariant-loop-minute l =
    (AreRising l.initial.minutes → AreRising l.minutes)
    × ((m : ℕ) → m < 1440 → (has l.initial.minutes m || is_listed l.listed m) ≡ (has l.minutes m || is_listed (drop l.minute-index l.listed) m))
