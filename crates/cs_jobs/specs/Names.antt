-- The names of jobs and of their runs.
use Rattle.std.specs.Prelude.{ℕ, if◌then◌else◌, List, [], ◌++◌, codes, map, slice_index_or}
use Rattle.std.specs.Fmt.{decimal}
use Rattle.cs_civil.specs.Text.{minute_text}
use Rattle.cs_crontab.specs.Crontab.{CommandLine}
use Rattle.cs_anacrontab.specs.Anacrontab.{JobLine}
use Rattle.cs_plan.specs.Plan.{Declared}
use Rattle.cs_history.specs.Step.{is_civil}
use Rattle.cs_history.specs.declared.run.Run.{Run}

-- the name of a cron job, and of an anacron job: `line 3`, `job backup`
abbrev pub line_name : CommandLine → List ℕ
line_name line = codes "line " ++ decimal line.number

abbrev pub identifier_name : JobLine → List ℕ
identifier_name line = codes "job " ++ line.identifier

-- what the names of their runs begin with: `line 3 due `, `job backup at `
abbrev pub due_front : CommandLine → List ℕ
due_front line = line_name line ++ codes " due "

abbrev pub at_front : JobLine → List ℕ
at_front line = identifier_name line ++ codes " at "

-- jobs by number: the crontab's lines come first, then the anacrontab's
abbrev pub job_names : Declared → List (List ℕ)
job_names d = map line_name d.crontab.lines ++ map identifier_name d.anacrontab.lines

abbrev pub job_fronts : Declared → List (List ℕ)
job_fronts d = map due_front d.crontab.lines ++ map at_front d.anacrontab.lines

-- nothing for no job
unfoldable pub job_name : Declared → ℕ → List ℕ
job_name d job = slice_index_or (job_names d) job []

unfoldable pub job_front : Declared → ℕ → List ℕ
job_front d job = slice_index_or (job_fronts d) job []

-- nothing if the minute isn't from 1970-01-02 to 9999-12-31
abbrev pub minute_if_civil : ℕ → List ℕ
minute_if_civil at = if is_civil at then minute_text at else []

-- a run by its job and its minute: `line 3 due 2024-09-13 23:30`
unfoldable pub run_name : Declared → Run → List ℕ
run_name d run = job_front d run.job ++ minute_if_civil run.at
