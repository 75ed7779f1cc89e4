use Rattle.std.proofs.Common.{◌≡◌, ℕ, ◌<◌, length}
use Rattle.cs_plan.specs.Plan.{as_plan}
use Rattle.cs_overlap.specs.Roles.{role_at, role_of}
use Rattle.cs_overlap.proofs.roles.jobs_of.Given as goal

abbrev pub invariant-loop-number : goal.invariant-loop-number
invariant-loop-number l = (length l.jobs.items ≡ l.number) × ((j : ℕ) → j < l.number → role_at l.jobs.items j ≡ role_of (as_plan l.plan) j)
