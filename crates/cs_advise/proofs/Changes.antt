-- A plan stays whole where one declaration changes.
use Rattle.std.proofs.Common.{◌≡◌, ℕ, ◌+◌, ◌-◌, ◌<◌, ◌≤◌, List, drop, length, set, inl, inr, refl, sym, ap, subst, ◌∙◌, arith}
use Rattle.std.specs.Prelude.{All, IfSome}
use Rattle.std.proofs.Math.Seq.{map-set_same}
use Rattle.std.proofs.lemmas.List.{drop-set-lt, drop-set-add}
use Rattle.std.proofs.lemmas.List.Elements.{All-set}
use Rattle.std.proofs.lemmas.Bool.{cases_lt}
use Rattle.cs_history.specs.declared.mode.Mode.TheVariants.{Plain}
use Rattle.cs_plan.specs.declared.limits.TheConstants.{MAX_MINUTES}
use Rattle.cs_plan.specs.Job.{DeclaredJob, IsPossible}
use Rattle.cs_plan.specs.Plan.{Declared, IsWhole, IsListed, crons, job_at, no_job}
use Rattle.cs_advise.specs.Changed.{job_with_max, with_max}
use Rattle.cs_plan.proofs.Plans.{at_or, plain_at, possible}

-- past a place, P still holds of each where one element changes
all_behind : {X : Type 0} (P : X → Type 0) (n : ℕ) (xs : List X) (j : ℕ) (x : X) → All P (drop n xs) → (n ≤ j → P x) → All P (drop n (set xs j x))
all_behind P n xs j x each new = elim (cases_lt j n) [
  | inl before ↦ subst (All P) (sym (drop-set-lt n xs j x before)) each
  | inr behind ↦ let e : n + (j - n) ≡ j = omega arith in
      subst (λ k. All P (drop n (set xs k x))) e
      (subst (All P) (sym (drop-set-add n xs (j - n) x)) (All-set P (drop n xs) (j - n) x (new behind) each))
]

-- the other declaration is for the same line, and in range
pub changed : (d : Declared) → IsWhole d → (j : ℕ) (job : DeclaredJob)
    → job.place ≡ (job_at d j).place → IsPossible job → IsListed (length d.groups) job → (crons d ≤ j → job.mode ≡ Plain)
    → IsWhole (record d { jobs = set d.jobs j job })
changed d w j job place valid listed plain = record {
  few_commands = w.few_commands;
  few_lines = w.few_lines;
  timed = w.timed;
  lines = w.lines;
  places = map-set_same (λ (x : DeclaredJob). x.place) d.jobs j job no_job place ∙ w.places;
  possible = All-set IsPossible d.jobs j job valid w.possible;
  plain = all_behind (λ (x : DeclaredJob). x.mode ≡ Plain) (crons d) d.jobs j job w.plain plain;
  listed = All-set (IsListed (length d.groups)) d.jobs j job listed w.listed;
  few_groups = w.few_groups;
  names = w.names;
  capacity = w.capacity;
  hours = w.hours;
  pass = w.pass;
  offset = w.offset;
}

listed_at : (d : Declared) → IsWhole d → (j : ℕ) → IsListed (length d.groups) (job_at d j)
listed_at d w j = at_or (IsListed (length d.groups)) d.jobs j no_job w.listed tt

pub with_max_whole : (d : Declared) → IsWhole d → (j max : ℕ) → (1 ≤ max) × (max ≤ MAX_MINUTES) → IsWhole (with_max d j max)
with_max_whole d w j max range = changed d w j (job_with_max (job_at d j) max) refl
    (record { max = range; weight = (possible d w j).weight; lock = (possible d w j).lock })
    (listed_at d w j) (λ behind. plain_at d w j behind)
