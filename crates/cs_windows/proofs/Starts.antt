use Rattle.std.proofs.Common.{◌≡◌, ℕ, ◌<◌, Bool, arith}
use Rattle.cs_schedule.specs.Numbers.{has}
use Rattle.cs_schedule.specs.Minutes.{minutes_where}
use Rattle.cs_schedule.proofs.Ranges.{has-filter}

pub has-minutes_where : (p : ℕ → Bool) (minute : ℕ) → minute < 1440 → has (minutes_where p) minute ≡ p minute
unfolding minutes_where
has-minutes_where p minute lt = has-filter p 0 1440 minute (omega arith) (omega arith)
