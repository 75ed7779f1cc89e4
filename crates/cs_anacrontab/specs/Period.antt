-- When a job is due (anacron(8)).
use Rattle.std.specs.Prelude.{ℕ, Bool, true, not, ◌&&◌, ◌||◌, ◌==◌, ◌+◌, nat_lt, nat_le, Option, Some, None}
use Rattle.cs_civil.specs.Calendar.{date_of}
use Rattle.cs_anacrontab.specs.declared.period.Period.{Period}
use Rattle.cs_anacrontab.specs.declared.period.Period.TheVariants.{Days, Monthly}

abbrev pub is_same_month : ℕ → ℕ → Bool
is_same_month n k = (date_of n).year == (date_of k).year && (date_of n).month == (date_of k).month

-- the period since the stamp is over: so many days, or with `@monthly` the month of the stamp
abbrev pub is_over : Period → ℕ → ℕ → Bool
is_over (Days n) stamp today = nat_le (stamp + n) today
is_over Monthly stamp today = not (is_same_month stamp today)

-- due without a stamp, with one of a later day, or when the period is over
abbrev pub is_due : Period → Option ℕ → ℕ → Bool
is_due period None today = true
is_due period (Some stamp) today = nat_lt today stamp || is_over period stamp today
