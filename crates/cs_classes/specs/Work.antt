-- What waits for the lock of a group, from one day to the next.
use Rattle.std.specs.Prelude.{◌≡◌, ℕ, ◌<◌, ◌+◌, ◌-◌, ◌∷◌, [], Bool, true, false, not, ◌||◌, Option, Some, None, if◌then◌else◌, filter, nat_le, slice_index, slice_index_or, length, List}
use Rattle.cs_claims.specs.declared.class.Class.{Class}
use Rattle.cs_claims.specs.Certificate.{bound_in, is_due_in, pieces_of}
use Rattle.cs_history.specs.Lists.{total, below}
use Rattle.cs_history.specs.Plan.{Plan, locks}
use Rattle.cs_wait.specs.Bounds.{StepsHold, at_days}
use Rattle.cs_windows.specs.Windows.{day_minutes}
use Rattle.cs_theorem.specs.Faults.{first_of, has_waiter, unless}
use Rattle.cs_classes.specs.declared.steps.Work.{Work}

-- the declared time of a job that is due at a minute of a class and takes the group's lock, else 0
abbrev pub brought : Plan → Class → ℕ → ℕ → ℕ → ℕ
brought p class g j m = if is_due_in class j m then (if locks p g j then p.limit j else 0) else 0

-- the sum of the declared times of the cron jobs that are due at a minute of a class and take the
-- lock of the group
abbrev pub arrivals_in : Plan → Class → ℕ → ℕ → ℕ
arrivals_in p class g m = total (λ j. if locks p g j then p.limit j else 0)
    (filter (λ j. is_due_in class j m) (below p.crons))

-- whether the bound of a group follows the arrivals in the step from a minute of the eve to the
-- next: the next bound is at least this bound plus the arrivals, less one
abbrev pub step_holds : Plan → Class → Class → ℕ → ℕ → Bool
step_holds p eve day m g = nat_le ((bound_in eve g m + arrivals_in p eve g m) - 1)
    (at_days (bound_in eve g ∷ bound_in day g ∷ []) (m + 1))

-- the minute and the group, if a job waits for its lock and the step fails
abbrev pub rise_of : Plan → Class → Class → ℕ → ℕ → Option (ℕ × ℕ)
rise_of p eve day m g = unless (not (has_waiter p g) || step_holds p eve day m g) (m, g)

abbrev pub rise_at : Plan → Class → Class → ℕ → Option (ℕ × ℕ)
rise_at p eve day m = first_of (rise_of p eve day m) (below p.groups)

-- the first minute of the eve, and the first group there, whose step fails
abbrev pub rise_between : Plan → Class → Class → Option (ℕ × ℕ)
rise_between p eve day = first_of (rise_at p eve day) day_minutes

-- the bound of each group with a job that waits follows the arrivals at each minute of the eve
abbrev pub IsSteady : Plan → Class → Class → Type 0
IsSteady p eve day = (g : ℕ) → g < p.groups → has_waiter p g ≡ true
    → StepsHold (bound_in eve g) (arrivals_in p eve g) (bound_in day g)

-- what is known of a group: nothing if no job waits for its lock
abbrev pub IsWork : Plan → Class → Class → ℕ → Option Work → Type 0
IsWork p eve day g None = has_waiter p g ≡ false
IsWork p eve day g (Some w) = (has_waiter p g ≡ true)
    × ((m : ℕ) → m < 1440 → slice_index w.arrivals m ≡ arrivals_in p eve g m)
    × (w.eve.now ≡ pieces_of eve.backlog g) × (w.day.now ≡ pieces_of day.backlog g)

abbrev pub AreWorks : Plan → Class → Class → List (Option Work) → Type 0
AreWorks p eve day works = (length works ≡ p.groups)
    × ((g : ℕ) → g < p.groups → IsWork p eve day g (slice_index_or works g None))
