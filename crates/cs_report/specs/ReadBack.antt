-- Which jobs a script names by the numbers of their lines.
use Rattle.std.specs.Prelude.{ℕ, Bool, true, false, ◌==◌, nat_lt, if◌then◌else◌, Option, Some, None}
use Rattle.cs_plan.specs.Plan.{Declared, command_of, crons}
use Rattle.cs_history.specs.declared.event.Event.{Event}
use Rattle.cs_history.specs.declared.event.Event.TheVariants.{Minute, Begin, Got, Catch, End, Down}
use Rattle.cs_history.specs.declared.event.Event.TheVariants.{Up}
use Rattle.cs_report.specs.Names.{job_on}

abbrev pub is_job : ℕ → Option ℕ → Bool
is_job j None = false
is_job j (Some found) = found == j

-- the number of the job's line names that job
unfoldable pub tells_command : Declared → ℕ → Bool
tells_command d j = is_job j (job_on d (command_of d j).number)

-- so it does, where the job is one of the crontab
abbrev pub tells_job : Declared → ℕ → Bool
tells_job d j = if nat_lt j (crons d) then tells_command d j else true

-- so do those of the jobs of an event
abbrev pub tells_event : Declared → Event → Bool
tells_event d (Minute t) = true
tells_event d (Begin j) = tells_command d j
tells_event d (Got j t) = tells_command d j
tells_event d (Catch j) = true
tells_event d (End r) = tells_job d r.job
tells_event d Down = true
tells_event d (Up t) = true
