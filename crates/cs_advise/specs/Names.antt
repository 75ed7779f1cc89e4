-- The names of jobs.
use Rattle.std.specs.Prelude.{ℕ, List, ◌++◌, codes, nat_lt, if◌then◌else◌}
use Rattle.cs_plan.specs.JobNames.{command_name, identifier_of}
use Rattle.cs_plan.specs.Plan.{Declared, crons}
use Rattle.cs_place.specs.Shown.{shown_text}

-- `line N` of a cron job; `job ID` of an anacron job, as a terminal may show it
unfoldable pub job_label : Declared → ℕ → List ℕ
job_label d j =
    if nat_lt j (crons d) then command_name d j
    else codes "job " ++ shown_text (identifier_of d j)
