use Rattle.std.proofs.Common.{◌≡◌, ℕ, ap, sym, subst}
use Rattle.std.proofs.lemmas.List.{set-get_or}
use Rattle.cs_advise.specs.Changed.{with_max}
use Rattle.cs_plan.specs.Plan.{Declared, job_at, no_job}
use Rattle.cs_judge.specs.Called.{IsCalledSafe}

-- the longest time that a job has makes no other plan
with_own_max : (d : Declared) (j : ℕ) → with_max d j (job_at d j).max ≡ d
with_own_max d j = ap (λ jobs. record d { jobs = jobs }) (set-get_or d.jobs j no_job)

pub safe_with_own : (d : Declared) (j : ℕ) → IsCalledSafe d → IsCalledSafe (with_max d j (job_at d j).max)
safe_with_own d j safe = subst IsCalledSafe (sym (with_own_max d j)) safe
