-- The jobs that a script names.
use Rattle.std.specs.Prelude.{ℕ, ◌+◌, ◌==◌, nat_lt, if◌then◌else◌, List, Option, Some, None}
use Rattle.std.specs.Prelude.{position}
use Rattle.std.specs.Str.{bytes_eq}
use Rattle.cs_plan.specs.Plan.{Declared, crons}

-- the job of the command on the line of that number, which fits 32 bits
unfoldable pub job_on : Declared → ℕ → Option ℕ
job_on d n =
    if nat_lt n 4_294_967_296 then position (λ line. line.number == n) d.crontab.lines else None

-- the place of the identifier among the jobs of the anacrontab
unfoldable pub place_of : Declared → List ℕ → Option ℕ
place_of d identifier = position (λ line. bytes_eq line.identifier identifier) d.anacrontab.lines

-- its job: those of the anacrontab come after those of the crontab
abbrev pub job_behind : ℕ → Option ℕ → Option ℕ
job_behind crons None = None
job_behind crons (Some place) = Some (crons + place)

unfoldable pub job_named : Declared → List ℕ → Option ℕ
job_named d identifier = job_behind (crons d) (place_of d identifier)
