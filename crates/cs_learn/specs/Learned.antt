-- The longest times that logs give.
use Rattle.std.specs.Prelude.{◌≡◌, ◌<◌, ℕ, true, List, All, Option, Some, None, IfSome, IsSomeAnd}
use Rattle.std.specs.List.{list_all}
use Rattle.cs_crontab.specs.Crontab.{CommandLine}
use Rattle.cs_anacrontab.specs.Anacrontab.{JobLine}
use Rattle.cs_retrace.specs.Maxes.{given_in, has_job, max_of}
use Rattle.cs_retrace.specs.declared.maxes.Given.{Given}
use Rattle.cs_retrace.specs.declared.maxes.TheConstants.{LONGEST_MAX}
use Rattle.cs_learn.specs.Max.{IsEnough, IsMax}
use Rattle.cs_learn.specs.declared.evidence.Evidence.{Evidence}
use Rattle.cs_learn.specs.declared.evidence.Ran.{Ran}
use Rattle.cs_learn.specs.declared.job.Job.{Job}

-- 0 without a start without an end
abbrev pub seconds_since : Option Ran → ℕ
seconds_since None = 0
seconds_since (Some run) = run.seconds

-- A job has no max without a run that ended, or where 4,320 minutes aren't enough. Else its max is
-- the least number of minutes that is enough for the longest run.
abbrev pub IsMaxOf : ℕ → Evidence → Option ℕ → Type 0
IsMaxOf factor known (Some max) = IsSomeAnd known.longest
    (λ ran. IsMax ran.seconds (seconds_since known.longest_open) factor max)
IsMaxOf factor known None = IfSome known.longest (λ ran. (minutes : ℕ)
    → IsEnough ran.seconds (seconds_since known.longest_open) factor minutes
    → LONGEST_MAX < minutes)

-- a job's max is given, by its name
abbrev pub Gives : ℕ → List Given → Job → Type 0
Gives factor given job = IsMaxOf factor job.evidence (max_of given job.name)

-- each job's max is given, and all that is given is for jobs of the tables
abbrev pub AreLearned : List CommandLine → List JobLine → List Job → ℕ → List Given → Type 0
AreLearned lines others jobs factor given = All (Gives factor given) jobs
    × (list_all (λ g. has_job lines others g.name) given ≡ true)

-- The bytes, read back, give each job of the logs its max.
abbrev pub IsLearned : List CommandLine → List JobLine → List Job → ℕ → List ℕ → Type 0
IsLearned lines others jobs factor bytes =
    (given : List Given) × (given_in bytes ≡ Some given) × AreLearned lines others jobs factor given
