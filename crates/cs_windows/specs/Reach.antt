use Rattle.std.specs.Prelude.{ℕ, ◌==◌, List, [], ◌∷◌, Option, Some, None, if◌then◌else◌}
use Rattle.cs_windows.specs.declared.reach.JobReach.{JobReach}

-- the first reach that is listed for the job
abbrev pub reach_of : List JobReach → ℕ → Option ℕ
reach_of [] j = None
reach_of (r ∷ rs) j = if r.job == j then Some r.reach else reach_of rs j
