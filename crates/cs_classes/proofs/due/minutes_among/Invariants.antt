use Rattle.std.proofs.Common.{◌≡◌, ℕ, ◌<◌, ◌||◌, ◌&&◌, nat_eq, drop}
use Rattle.std.specs.List.{list_any}
use Rattle.cs_daytree.specs.Tree.{has as is_listed}
use Rattle.cs_schedule.specs.Numbers.{has}
use Rattle.cs_classes.specs.DayMinutes.{AreRising}
use Rattle.cs_classes.proofs.due.minutes_among.Given as goal

abbrev pub invariant-loop-list : goal.invariant-loop-list
invariant-loop-list l =
    AreRising l.minutes
    × ((m : ℕ) → m < 1440 → list_any (λ d. nat_eq d.job l.job && is_listed d.minutes m) l.due ≡ (has l.minutes m || list_any (λ d. nat_eq d.job l.job && is_listed d.minutes m) (drop l.list-index l.due)))
