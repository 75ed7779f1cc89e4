-- What a whole plan is to a history.
use Rattle.std.proofs.Common.{◌≡◌, ℕ, zero, suc, ◌+◌, ◌-◌, ◌<◌, ◌≤◌, List, [], ◌∷◌, drop, length, get_or, Option, Some, None, refl, sym, ap, subst, ◌∙◌, arith}
use Rattle.std.specs.Prelude.{All, IfSome, IsSome}
use Rattle.std.proofs.lemmas.Bool.{ltb-false}
use Rattle.std.proofs.lemmas.List.{length-append, length-map, get_or-drop}
use Rattle.std.proofs.lemmas.List.FromFn.{length-range_with_len}
use Rattle.std.proofs.lemmas.List.Elements.{All-head, All-tail}
use Rattle.cs_history.specs.declared.mode.Mode.TheVariants.{Plain}
use Rattle.cs_history.specs.Plan.{IsPlan, takes}
use Rattle.cs_plan.specs.declared.limits.TheConstants.{MAX_MINUTES}
use Rattle.cs_plan.specs.Job.{DeclaredJob, IsPossible}
use Rattle.cs_plan.specs.Plan.{Declared, IsWhole, IsListed, crons, places_of, no_job, job_at, as_plan}

-- what holds of each element and of the default holds at each place
pub at_or : {X : Type 0} (P : X → Type 0) (xs : List X) (j : ℕ) (d : X) → All P xs → P d → P (get_or xs j d)
at_or P [] j d each base = base
at_or P (x ∷ xs) zero d each base = All-head P x xs each
at_or P (x ∷ xs) (suc j) d each base = at_or P xs j d (All-tail P x xs each) base

pub count : (d : Declared) → IsWhole d → length d.jobs ≡ crons d + length d.anacrontab.lines
count d w =
    sym (length-map d.jobs (λ job. job.place)) ∙ ap length w.places ∙ length-append (places_of d.crontab.lines) (places_of d.anacrontab.lines)
    ∙ rw (length-range_with_len, length-range_with_len) refl

pub possible : (d : Declared) → IsWhole d → (j : ℕ) → IsPossible (job_at d j)
possible d w j = at_or IsPossible d.jobs j no_job w.possible (record { max = (omega arith, omega arith); weight = (omega arith, omega arith); lock = λ e. absurd cc })

listed_is : (o : Option ℕ) (n g : ℕ) → IfSome o (λ k. k < n) → o ≡ Some g → g < n
listed_is (Some k) n g within is = let e : k ≡ g = cc in subst (λ m. m < n) e within
listed_is None n g within is = absurd cc

there : (o : Option ℕ) → IsSome o → (g : ℕ) × (o ≡ Some g)
there (Some g) some = (g, refl)
there None some = absurd cc

pub plain_at : (d : Declared) → IsWhole d → (j : ℕ) → crons d ≤ j → (job_at d j).mode ≡ Plain
plain_at d w j behind =
    let e : crons d + (j - crons d) ≡ j = omega arith in
    let here : (get_or (drop (crons d) d.jobs) (j - crons d) no_job).mode ≡ Plain = at_or (λ job. job.mode ≡ Plain) (drop (crons d) d.jobs) (j - crons d) no_job w.plain refl in
    ap (λ k. (get_or d.jobs k no_job).mode) (sym e) ∙ ap (λ (job : DeclaredJob). job.mode) (sym (get_or-drop (crons d) d.jobs (j - crons d) no_job)) ∙ here

pub resolved : (d : Declared) → IsWhole d → IsPlan (as_plan d)
resolved d w = record {
  crons = omega (arith, count d w);
  limits = λ j. omega (arith, (possible d w j).max.0);
  weights = λ j. omega (arith, (possible d w j).weight.0);
  groups = λ j g is. listed_is (job_at d j).group (length d.groups) g (at_or (IsListed (length d.groups)) d.jobs j no_job w.listed tt) is;
  lock_has_group = λ j taken. there (job_at d j).group ((possible d w j).lock taken);
  anacron_plain = λ j behind. ap takes (plain_at d w j (ltb-false j (crons d) behind));
  hours = w.hours;
}

pub few : (d : Declared) → IsWhole d → length d.jobs ≤ 320
few d w = omega (arith, count d w, w.few_commands, w.few_lines)

pub within : (d : Declared) → IsWhole d → crons d ≤ length d.jobs
within d w = omega (arith, count d w)

pub limits : (d : Declared) → IsWhole d → (j : ℕ) → (as_plan d).limit j ≤ MAX_MINUTES
limits d w j = (possible d w j).max.1
