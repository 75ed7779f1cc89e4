use Rattle.std.specs.Prelude.{ℕ, ◌+◌, ◌*◌, Bool, not, ◌||◌, nat_le}
use Rattle.std.specs.List.{list_all}
use Rattle.cs_civil.specs.Calendar.{Kind}
use Rattle.cs_civil.specs.Order.{all_kinds}
use Rattle.cs_windows.specs.Windows.{Job, day_minutes}

-- each window that begins on a day of this kind ends by the end of so many days, that day counted
abbrev pub ends_on : Job Kind → ℕ → Kind → Bool
ends_on job days kind =
    list_all (λ m. not (job.begins kind m) || nat_le (m + job.lasts) (1440 * days)) day_minutes

abbrev pub job_fits : ℕ → Job Kind → Bool
job_fits days job = list_all (ends_on job days) all_kinds
