-- What declares the jobs of a plan.
use Rattle.std.proofs.Common.{◌≡◌, inl, inr, ℕ, zero, suc, ◌+◌, ◌<◌, List, [], ◌∷◌, ◌++◌, Bool, true, false, not, ◌&&◌, map, length, get_or, Option, Some, None, Ok, refl, ap, subst, ◌∙◌, arith}
use Rattle.std.specs.Prelude.{is_none}
use Rattle.std.specs.List.{find, count_by}
use Rattle.std.proofs.lemmas.List.Folds.{list_any_none}
use Rattle.cs_crontab.specs.Crontab.{Table as Crontab, CommandLine}
use Rattle.cs_anacrontab.specs.Anacrontab.{Table as Anacrontab}
use Rattle.cs_decl.specs.declared.entries.CronEntry.{CronEntry}
use Rattle.cs_decl.specs.declared.entries.DefaultEntry.{DefaultEntry}
use Rattle.cs_decl.specs.declared.entries.Entries.{Entries}
use Rattle.cs_plan.specs.Job.{DeclaredJob}
use Rattle.cs_plan.specs.Plan.{Declared, crons, places_of, no_job, no_command, job_at, command_of}
use Rattle.cs_decl.specs.Join.{is_named, has_entry, has_job_entry, is_undeclared, is_undeclared_job, default_terms, cron_terms, cron_job, anacron_job, jobs_from, rest, lines_left_out, untimed, plan_of, joined}
use Rattle.cs_plan.specs.Reboot.{is_reboot}
use Rattle.cs_decl.specs.Lines.{AreParted, HasDefault, IsDeclared}
use Rattle.cs_plan.proofs.Plains.{find_none}
use Rattle.cs_decl.proofs.Validity.{locked}
use Rattle.cs_decl.proofs.Once.{found_there, count_none}
use Rattle.cs_decl.proofs.Wholes.{plan_places}
use Rattle.cs_decl.proofs.Parted.{parted}
use Rattle.cs_decl.proofs.Commands.{declared_right, plan_is}

at_place : (job : ℕ → CommandLine → DeclaredJob) (more : List DeclaredJob) (k : ℕ) (lines : List CommandLine) (j : ℕ) (low : j < length lines) → get_or (jobs_from job k lines ++ more) j no_job ≡ job (k + j) (get_or lines j no_command)
at_place job more k [] j low = absurd (omega (arith, low))
at_place job more k (line ∷ lines) zero low = let e : k ≡ k + 0 = omega arith in ap (λ n. job n line) e
at_place job more k (line ∷ lines) (suc j) low = let e : k + 1 + j ≡ k + suc j = omega arith in at_place job more (k + 1) lines j (omega (arith, low)) ∙ ap (λ n. job n (get_or lines j no_command)) e

-- a job without an entry has the default, if nothing is undeclared
with_default : (d : Entries) (line : CommandLine) (k : ℕ) (o : Option DefaultEntry) → d.default ≡ o → is_reboot line.when ≡ false → has_entry d line ≡ false → is_undeclared d line ≡ false → HasDefault d (default_terms k d.default)
with_default d line k (Some e) is timed none declared = (e, is, rw is refl, rw is refl, rw is refl, rw is refl)
with_default d line k None is timed none declared = let no : is_undeclared d line ≡ true = rw (is, timed, none) refl in cc

declared_by : (d : Entries) (line : CommandLine) (k : ℕ) (o : Option CronEntry) → find (λ e. is_named e.name line) d.cron ≡ o → is_reboot line.when ≡ false → is_undeclared d line ≡ false → IsDeclared d line (cron_terms d k o)
declared_by d line k (Some e) is timed declared = let (there, named) = found_there (λ x. is_named x.name line) d.cron e is in inl (e, there, named, refl, refl, refl, refl)
declared_by d line k None is timed declared =
    let none = find_none (λ x. is_named x.name line) d.cron is in
    inr (none, with_default d line k d.default refl timed (list_any_none (λ x. is_named x.name line) d.cron none) declared)

entered : (a b : Bool) → (not a && not b) ≡ false → a ≡ false → b ≡ true
entered a true e f = refl
entered false false e f = cc
entered true false e f = cc

no_default : (o : Option DefaultEntry) → o ≡ None → is_none o ≡ true
no_default None e = refl
no_default (Some x) e = cc

module _ (c : Crontab) (a : Anacrontab) (d : Entries) (plan : Declared) (made : joined c a d ≡ Ok plan) where
  abbrev the_plan : Declared
  the_plan = plan_of (rest d c) (lines_left_out d c) (untimed d c.lines) a d

  pub lines : AreParted d c.lines plan.crontab.lines plan.left_out
  unfolding plan_of
  lines = subst (λ (p : Declared). AreParted d c.lines p.crontab.lines p.left_out) (plan_is c a d plan made) (parted d c.lines)

  pub jobs : (plan.anacrontab ≡ a) × (map (λ job. job.place) plan.jobs ≡ places_of plan.crontab.lines ++ places_of plan.anacrontab.lines)
  unfolding plan_of
  jobs =
      subst (λ (p : Declared). (p.anacrontab ≡ a) × (map (λ job. job.place) p.jobs ≡ places_of p.crontab.lines ++ places_of p.anacrontab.lines)) (plan_is c a d plan made)
      (refl, plan_places (rest d c) (lines_left_out d c) (untimed d c.lines) a d)

  declared_at : (j : ℕ) → j < crons the_plan → IsDeclared d (command_of the_plan j) (job_at the_plan j)
  unfolding plan_of
  declared_at j low =
      let right = declared_right c a d plan made in
      let line = get_or (rest d c).lines j no_command in
      rw (at_place (cron_job d) (jobs_from (anacron_job d) 0 a.lines) 0 (rest d c).lines j low)
      (declared_by d line (0 + j) (find (λ e. is_named e.name line) d.cron) refl (find_none (λ l. is_reboot l.when) (rest d c).lines right.timed j no_command low) (find_none (is_undeclared d) (rest d c).lines right.crons j no_command low))

  pub declared : (j : ℕ) → j < crons plan → IsDeclared d (command_of plan j) (job_at plan j)
  declared = subst (λ (p : Declared). (j : ℕ) → j < crons p → IsDeclared d (command_of p j) (job_at p j)) (plan_is c a d plan made) declared_at

  none_defaulted : d.default ≡ None → the_plan.defaulted ≡ 0
  unfolding plan_of
  none_defaulted none =
      let right = declared_right c a d plan made in
      let timed = find_none (λ l. is_reboot l.when) (rest d c).lines right.timed in
      let named = find_none (is_undeclared d) (rest d c).lines right.crons in
      let jobs_named = find_none (is_undeclared_job d) a.lines right.anacrons in
      let first : count_by (λ line. not (has_entry d line)) (rest d c).lines ≡ 0 =
      count_none (λ line. not (has_entry d line)) (rest d c).lines (λ k l low. ap not (entered _ _ (locked _ _ (named k l low) (no_default d.default none)) (timed k l low))) in
      let second : count_by (λ line. not (has_job_entry d line)) a.lines ≡ 0 =
      count_none (λ line. not (has_job_entry d line)) a.lines (λ k l low. locked _ _ (jobs_named k l low) (no_default d.default none)) in
      rw (first, second) refl

  pub defaults : d.default ≡ None → plan.defaulted ≡ 0
  defaults = subst (λ (p : Declared). d.default ≡ None → p.defaulted ≡ 0) (plan_is c a d plan made) none_defaulted
