-- How long the runs of each job may take while the plan stays safe.
use Rattle.std.specs.Prelude.{◌≡◌, ◌≤◌, ◌-◌, ℕ, List, ◌++◌, All, codes, length, map}
use Rattle.std.specs.Fmt.{decimal}
use Rattle.std.specs.List.{range_with_len}
use Rattle.std.specs.List.Sorted.{IsNonDecreasingBy, IsPermutation}
use Rattle.cs_advise.specs.Changed.{with_max}
use Rattle.cs_plan.specs.Plan.{Declared, job_at}
use Rattle.cs_judge.specs.Called.{IsCalledSafe}
use Rattle.cs_advise.specs.Names.{job_label}
use Rattle.cs_advise.specs.declared.room.Room.{Room}

-- The plan is called safe with `most` as the job's longest time, which is not below the declared
-- one; all else is as declared.
pub record IsRoom (plan : Declared) (room : Room) : Type 0 where
  pub declared : room.max ≡ (job_at plan room.job).max
  pub more : room.max ≤ room.most
  pub safe : IsCalledSafe (with_max plan room.job room.most)

-- how many minutes longer than declared a run may take
abbrev pub slack : Room → ℕ
slack room = room.most - room.max

-- each job of the plan has its room; those with the least slack come first
pub record AreRooms (plan : Declared) (rooms : List Room) : Type 0 where
  pub jobs : IsPermutation (range_with_len 0 (length plan.jobs)) (map (λ room. room.job) rooms)
  pub each : All (IsRoom plan) rooms
  pub order : IsNonDecreasingBy slack rooms

-- the line begins `JOB: max MAX, safe up to MOST`
abbrev pub IsRoomLine : Declared → Room → List ℕ → Type 0
IsRoomLine d room line = (more : List ℕ) × (line ≡ job_label d room.job
    ++ (codes ": max " ++ (decimal room.max
    ++ (codes ", safe up to " ++ (decimal room.most ++ more)))))
