use Rattle.std.proofs.Common.{ℕ, List, ◌∙◌, ap, sym}
use Rattle.cs_schedule.specs.Numbers.{has}
use Rattle.cs_zone.specs.Starts.{is_due}
use Rattle.cs_windows.specs.declared.job_windows.Occupied.{Occupied}
use Rattle.cs_windows.specs.Occupied.{job_of}
use Rattle.cs_windows.proofs.Starts.{has-minutes_where}
use Rattle.cs_windows.proofs.job_windows.Occupied.starts_on.Goals as goal

pub returns-in-Cron : goal.returns-in-Cron
returns-in-Cron c minute lt =
    ap (λ (minutes : List ℕ). has minutes minute) c.minutes_of.ensures
    ∙ (has-minutes_where (is_due c.in-Cron.zone.now c.in-Cron.schedule.now c.args.day) minute lt ∙ ap (λ (o : Occupied). (job_of o).begins c.args.day minute) (sym c.in-Cron.is))
