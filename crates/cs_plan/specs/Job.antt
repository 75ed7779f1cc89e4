-- What is declared of one job.
use Rattle.std.specs.Prelude.{◌≡◌, ℕ, ◌≤◌, true, Option, IsSome}
use Rattle.cs_history.specs.declared.mode.Mode.{Mode}
use Rattle.cs_history.specs.Plan.{takes}
use Rattle.cs_plan.specs.declared.limits.TheConstants.{MAX_MINUTES, MAX_WEIGHT}

-- its line's place in the table, the most minutes and the weight of a run, its group's place, its
-- mode
pub record DeclaredJob : Type 0 where
  pub place : ℕ
  pub max : ℕ
  pub weight : ℕ
  pub group : Option ℕ
  pub mode : Mode

-- minutes and weight are in their ranges, and a job that takes a lock belongs to a group
pub record IsPossible (job : DeclaredJob) : Type 0 where
  pub max : (1 ≤ job.max) × (job.max ≤ MAX_MINUTES)
  pub weight : (1 ≤ job.weight) × (job.weight ≤ MAX_WEIGHT)
  pub lock : takes job.mode ≡ true → IsSome job.group
