use Rattle.std.proofs.Common.{◌≡◌, [], ℕ, ◌<◌, ◌||◌, ◌&&◌, nat_eq, length, slice_index_or, drop}
use Rattle.std.specs.List.{list_any}
use Rattle.cs_daytree.specs.Tree.{has as is_listed}
use Rattle.cs_schedule.specs.Numbers.{has}
use Rattle.cs_classes.proofs.due.add_to_jobs.Given as goal

-- what the sets have now and what the lists left will add make up what they are to have
abbrev pub invariant-loop-list : goal.invariant-loop-list
invariant-loop-list l =
    (length l.sets ≡ length l.initial.sets)
    × ((j m : ℕ) → j < length l.initial.sets → m < 1440 → (has (slice_index_or l.initial.sets j []) m || list_any (λ d. nat_eq d.job j && is_listed d.minutes m) l.due) ≡ (has (slice_index_or l.sets j []) m || list_any (λ d. nat_eq d.job j && is_listed d.minutes m) (drop l.list-index l.due)))
