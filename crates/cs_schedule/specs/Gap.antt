-- How soon a command is due again, or after another one.
use Rattle.std.specs.Prelude.{◌≡◌, ℕ, zero, suc, ◌+◌, ◌*◌, ◌/◌, ◌%◌, ◌<◌, ◌≤◌, ◌&&◌}
use Rattle.std.specs.Prelude.{Bool, true, false, List, slice_index_or}
use Rattle.std.specs.List.{list_any}
use Rattle.cs_civil.specs.Calendar.{Kind, kind, kinds_after}
use Rattle.cs_civil.specs.Order.{all_kinds}
use Rattle.cs_schedule.specs.Minutes.{minutes_where}
use Rattle.cs_schedule.specs.Numbers.{has}
use Rattle.cs_schedule.specs.Times.{Times, is_day_due, is_due, is_time_due}

abbrev pub is_due_at : Times → ℕ → Bool
is_due_at s t = is_due s (kind (t / 1440)) (t % 1440)

-- from each due minute to a later one there are at least so many minutes
abbrev pub AreApart : Times → ℕ → Type 0
AreApart s gap =
    (t u : ℕ) → is_due_at s t ≡ true → is_due_at s u ≡ true → t < u → t + gap ≤ u

-- from each due minute of the first to one of the second that is at least `least` minutes later,
-- there are at least so many minutes
abbrev pub AreApartFrom : Times → Times → ℕ → ℕ → Type 0
AreApartFrom s r least gap =
    (t u : ℕ) → is_due_at s t ≡ true → is_due_at r u ≡ true → t + least ≤ u → t + gap ≤ u

-- ---- over the days that can follow one another

-- a day on which it is due can come so many days after a day of this kind
abbrev pub is_day_due_after : Times → ℕ → Kind → Bool
is_day_due_after s zero day = is_day_due s day
is_day_due_after s (suc n) day = list_any (is_day_due_after s n) (kinds_after day)

-- a day of the second can come so many days after one of the first
unfoldable pub can_be_after : Times → Times → ℕ → Bool
can_be_after s r n = list_any (λ day. is_day_due s day && is_day_due_after r n day) all_kinds

-- a due minute of the second can come so many minutes after one of the first
unfoldable pub can_follow : Times → Times → ℕ → Bool
can_follow s r gap = list_any
    (λ m. can_be_after s r ((m + gap) / 1440) && is_time_due r ((m + gap) % 1440))
    (minutes_where (is_time_due s))

-- and in no fewer, from `least` on
abbrev pub NoneFrom : Times → Times → ℕ → ℕ → Type 0
NoneFrom s r least gap = (g : ℕ) → least ≤ g → g < gap → can_follow s r g ≡ false

-- two due minutes can be so many minutes apart
abbrev pub can_be_apart : Times → ℕ → Bool
can_be_apart s gap = can_follow s s gap

-- and no fewer
abbrev pub NoneBelow : Times → ℕ → Type 0
NoneBelow s gap = NoneFrom s s 1 gap

-- how many days later there can be a day of the second, as far as so many minutes reach
abbrev pub AreDays : Times → Times → ℕ → List Bool → Type 0
AreDays s r most days =
    (n : ℕ) → n * 1440 < most + 1440 → slice_index_or days n false ≡ can_be_after s r n

-- so many minutes after a minute of the day there is one of the set, on a day that can come
abbrev pub is_followed : List ℕ → List Bool → ℕ → ℕ → Bool
is_followed times days gap m =
    slice_index_or days ((m + gap) / 1440) false && has times ((m + gap) % 1440)
