-- When a run is late, and what the log says of it.
use Rattle.std.specs.Prelude.{ℕ, ◌+◌, nat_le, Bool, not, ◌&&◌, List, filter, map}
use Rattle.cs_history.specs.Plan.{Plan}
use Rattle.cs_history.specs.declared.run.Going.{Going}
use Rattle.cs_jobs.specs.declared.lines.LogLine.{LogLine}
use Rattle.cs_jobs.specs.declared.lines.LogLine.TheVariants.{Overrun}

-- a run is late once its declared time is used up
abbrev pub is_late : Plan → ℕ → Going → Bool
is_late p t r = nat_le (r.since + p.limit r.run.job) t

-- it becomes late after one minute and up to another
abbrev pub becomes_late : Plan → ℕ → ℕ → Going → Bool
becomes_late p last minute r = not (is_late p last r) && is_late p minute r

-- a line for each run that becomes late
abbrev pub late_lines : Plan → ℕ → ℕ → List Going → List LogLine
late_lines p last minute rs = map (λ r. Overrun r.run) (filter (becomes_late p last minute) rs)
