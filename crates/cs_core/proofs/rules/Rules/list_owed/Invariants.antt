use Rattle.std.proofs.Common.{◌≡◌, ◌≤◌, ◌++◌, ◌-◌, ◌&&◌, not, get_or, None, ℕ, drop, filter, length}
use Rattle.cs_core.specs.Standing.{is_job}
use Rattle.cs_plan.specs.Plan.{as_plan, crons}
use Rattle.cs_core.proofs.rules.Rules.list_owed.Given as goal

abbrev pub invariant-loop-job : goal.invariant-loop-job
invariant-loop-job l = record {
  listed : l.left.items ++ filter (λ (j : ℕ). (as_plan l.self).owed j (get_or l.stamps (j - crons l.self) None) l.today && not (is_job l.lone j)) (drop l.job-index l.job-items)
      ≡ filter (λ (j : ℕ). (as_plan l.self).owed j (get_or l.stamps (j - crons l.self) None) l.today && not (is_job l.lone j)) l.job-items;
  few : length l.left.items ≤ l.job-index;
}
