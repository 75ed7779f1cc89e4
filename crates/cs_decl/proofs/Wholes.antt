-- The plan of tables and declarations without a fault is whole.
use Rattle.std.proofs.Common.{◌≡◌, ◌≢◌, ℕ, zero, suc, ◌+◌, ◌<◌, ◌≤◌, List, [], ◌∷◌, ◌++◌, Bool, true, false, cond, map, length, get_or, Option, Some, None, refl, sym, ap, subst, ◌∙◌, arith, bytes_eq}
use Rattle.std.specs.Prelude.{All, AllPairs, unsigned_abs}
use Rattle.std.specs.List.{list_any, find, range_with_len}
use Rattle.std.proofs.lemmas.List.{drop_at, length-map}
use Rattle.std.proofs.lemmas.List.Elements.{All-nil, All-cons, All-append, All-weaker}
use Rattle.std.proofs.lemmas.List.Kept.{AllPairs-cons}
use Rattle.std.proofs.lemmas.Slice.Eq.{bytes_eq-Decides}
use Rattle.cs_crontab.specs.Crontab.{Table as Crontab, CommandLine}
use Rattle.cs_crontab.specs.declared.limits.TheConstants.{MAX_COMMANDS}
use Rattle.cs_anacrontab.specs.Anacrontab.{Table as Anacrontab, JobLine, IsPossible as IsPossibleLine}
use Rattle.cs_anacrontab.specs.declared.limits.TheConstants.{MAX_JOBS}
use Rattle.cs_history.specs.declared.mode.Mode.TheVariants.{Plain}
use Rattle.cs_decl.specs.declared.entries.GroupEntry.{GroupEntry}
use Rattle.cs_decl.specs.declared.entries.CronEntry.{CronEntry}
use Rattle.cs_decl.specs.declared.entries.AnacronEntry.{AnacronEntry}
use Rattle.cs_decl.specs.declared.entries.DefaultEntry.{DefaultEntry}
use Rattle.cs_decl.specs.declared.entries.Entries.{Entries}
use Rattle.cs_plan.specs.declared.limits.TheConstants.{MAX_OFFSET}
use Rattle.cs_plan.specs.Job.{DeclaredJob, IsPossible}
use Rattle.cs_plan.specs.Plan.{DeclaredGroup, IsWhole, IsListed, places_of}
use Rattle.cs_decl.specs.Faults.{first_again, first_twice}
use Rattle.cs_decl.specs.Meaning.{IsValid}
use Rattle.cs_decl.specs.Join.{is_named, is_of_job, default_terms, cron_terms, anacron_terms, cron_job, anacron_job, jobs_from, declared_group, offset_of, plan_of}
use Rattle.cs_plan.specs.Reboot.{is_reboot}
use Rattle.cs_plan.proofs.Plains.{map_append, timed}
use Rattle.cs_decl.proofs.Once.{or_none}
use Rattle.cs_decl.proofs.Validity.{facts, few_groups, cron_possible, anacron_possible, cron_listed, anacron_listed, capacity_possible, hours_possible, pass_possible}

-- ---- jobs of lines

module _ {L : Type 0} (job : ℕ → L → DeclaredJob) where
  all_from : (P : DeclaredJob → Type 0) → ((k : ℕ) (l : L) → P (job k l)) → (k : ℕ) (lines : List L) → All P (jobs_from job k lines)
  all_from P each k [] = All-nil P
  all_from P each k (l ∷ lines) = All-cons P (job k l) (jobs_from job (k + 1) lines) (each k l) (all_from P each (k + 1) lines)

  places_from : ((k : ℕ) (l : L) → (job k l).place ≡ k) → (k : ℕ) (lines : List L) → map (λ j. j.place) (jobs_from job k lines) ≡ range_with_len k (length lines)
  places_from each k [] = refl
  places_from each k (l ∷ lines) = rw (each k l, places_from each (k + 1) lines) refl

  length_from : (k : ℕ) (lines : List L) → length (jobs_from job k lines) ≡ length lines
  length_from k [] = refl
  length_from k (l ∷ lines) = ap suc (length_from (k + 1) lines)

-- ---- names that differ

other : (a b : List ℕ) → bytes_eq a b ≡ false → b ≢ a
other a b e = λ same. let t = (bytes_eq-Decides a b).1 (sym same) in absurd cc

any_push : (x : List ℕ) (before : List (List ℕ)) (y : List ℕ) → list_any (bytes_eq x) (before ++ y ∷ []) ≡ false → (list_any (bytes_eq x) before ≡ false) × (bytes_eq x y ≡ false)
any_push x [] y e = (refl, (or_none (bytes_eq x y) false e).0)
any_push x (b ∷ before) y e =
    let p = or_none (bytes_eq x b) (list_any (bytes_eq x) (before ++ y ∷ [])) e in
    let q = any_push x before y p.1 in
    (rw (p.0, q.0) refl, q.1)

abbrev New : List (List ℕ) → List (List ℕ) → Type 0
New before xs = All (λ x. list_any (bytes_eq x) before ≡ false) xs × AllPairs (λ x y. x ≢ y) xs

again_step : (before : List (List ℕ)) (i : ℕ) (x : List ℕ) (xs : List (List ℕ)) (b : Bool) → list_any (bytes_eq x) before ≡ b
    → cond b (Some i) (first_again bytes_eq (before ++ x ∷ []) (i + 1) xs) ≡ None
    → (first_again bytes_eq (before ++ x ∷ []) (i + 1) xs ≡ None → New (before ++ x ∷ []) xs) → New before (x ∷ xs)
again_step before i x xs true is e more = absurd cc
again_step before i x xs false is e more =
    let rest = more e in (
      All-cons (λ y. list_any (bytes_eq y) before ≡ false) x xs is (All-weaker (λ y. list_any (bytes_eq y) (before ++ x ∷ []) ≡ false) (λ y. list_any (bytes_eq y) before ≡ false) (λ y h. (any_push y before x h).0) xs rest.0),
      AllPairs-cons (λ y z. y ≢ z) x xs (All-weaker (λ y. list_any (bytes_eq y) (before ++ x ∷ []) ≡ false) (λ y. x ≢ y) (λ y h. other y x (any_push y before x h).1) xs rest.0) rest.1,
    )

pub none_again : (before : List (List ℕ)) (i : ℕ) (xs : List (List ℕ)) → first_again bytes_eq before i xs ≡ None → New before xs
none_again before i [] e = (All-nil (λ x. list_any (bytes_eq x) before ≡ false), λ a b d low high. absurd (omega (arith, high)))
none_again before i (x ∷ xs) e = again_step before i x xs (list_any (bytes_eq x) before) refl e (none_again (before ++ x ∷ []) (i + 1) xs)

names_at : (groups : List GroupEntry) (i : ℕ) (d : DeclaredGroup) → (get_or (map declared_group groups) i d).name ≡ get_or (map (λ g. g.name) groups) i d.name
names_at [] i d = refl
names_at (g ∷ groups) zero d = refl
names_at (g ∷ groups) (suc i) d = names_at groups i d

distinct_names : (groups : List GroupEntry) → first_twice bytes_eq (map (λ g. g.name) groups) ≡ None → AllPairs (λ x y. x.name ≢ y.name) (map declared_group groups)
distinct_names groups e = λ i j d low high same.
    (none_again [] 0 (map (λ g. g.name) groups) e).1 i j d.name low (subst (λ n. j < n) (length-map groups declared_group ∙ sym (length-map groups (λ g. g.name))) high)
    (sym (names_at groups i d) ∙ same ∙ names_at groups j d)

-- ---- jobs of tables

default_place : (k : ℕ) (o : Option DefaultEntry) → (default_terms k o).place ≡ k
default_place k None = refl
default_place k (Some e) = refl

default_plain : (k : ℕ) (o : Option DefaultEntry) → (default_terms k o).mode ≡ Plain
default_plain k None = refl
default_plain k (Some e) = refl

module _ (d : Entries) where
  cron_place : (k : ℕ) (l : CommandLine) → (cron_job d k l).place ≡ k
  cron_place k l = placed_cron (find (λ e. is_named e.name l) d.cron)
    where
      placed_cron : (o : Option CronEntry) → (cron_terms d k o).place ≡ k
      placed_cron None = default_place k d.default
      placed_cron (Some e) = refl

  anacron_place : (k : ℕ) (l : JobLine) → (anacron_job d k l).place ≡ k
  anacron_place k l = placed_anacron (find (is_of_job l.identifier) d.anacron)
    where
      placed_anacron : (o : Option AnacronEntry) → (anacron_terms d k o).place ≡ k
      placed_anacron None = default_place k d.default
      placed_anacron (Some e) = refl

  anacron_plain : (k : ℕ) (l : JobLine) → (anacron_job d k l).mode ≡ Plain
  anacron_plain k l = plain_anacron (find (is_of_job l.identifier) d.anacron)
    where
      plain_anacron : (o : Option AnacronEntry) → (anacron_terms d k o).mode ≡ Plain
      plain_anacron None = default_plain k d.default
      plain_anacron (Some e) = refl

-- the places of jobs are those of the lines
pub plan_places : (c : Crontab) (left_out : List ℕ) (untimed : Option ℕ) (a : Anacrontab) (d : Entries) → map (λ j. j.place) (plan_of c left_out untimed a d).jobs ≡ places_of c.lines ++ places_of a.lines
unfolding plan_of
plan_places c left_out untimed a d =
    map_append (λ j. j.place) (jobs_from (cron_job d) 0 c.lines) (jobs_from (anacron_job d) 0 a.lines)
    ∙ rw (places_from (cron_job d) (cron_place d) 0 c.lines, places_from (anacron_job d) (anacron_place d) 0 a.lines) refl

-- ---- the whole plan

pub whole : (c : Crontab) (left_out : List ℕ) (untimed : Option ℕ) (a : Anacrontab) (d : Entries) → IsValid d → unsigned_abs (offset_of d) ≤ MAX_OFFSET → length c.lines ≤ MAX_COMMANDS → length a.lines ≤ MAX_JOBS → All IsPossibleLine a.lines → find (λ line. is_reboot line.when) c.lines ≡ None → IsWhole (plan_of c left_out untimed a d)
unfolding plan_of
whole c left_out untimed a d v offset few_commands few_lines lines no_reboot = record {
  few_commands = few_commands;
  few_lines = few_lines;
  timed = timed c.lines no_reboot;
  lines = lines;
  places = plan_places c left_out untimed a d;
  possible =
      All-append IsPossible (jobs_from (cron_job d) 0 c.lines) (jobs_from (anacron_job d) 0 a.lines)
      (all_from (cron_job d) IsPossible (λ k l. cron_possible d v k _ _ refl) 0 c.lines)
      (all_from (anacron_job d) IsPossible (λ k l. anacron_possible d v k _ _ refl) 0 a.lines);
  plain = rw (drop_at (jobs_from (cron_job d) 0 c.lines) (jobs_from (anacron_job d) 0 a.lines) (length c.lines) (length_from (cron_job d) 0 c.lines)) (all_from (anacron_job d) (λ job. job.mode ≡ Plain) (anacron_plain d) 0 a.lines);
  listed =
      rw (length-map d.groups declared_group)
      (All-append (IsListed (length d.groups)) (jobs_from (cron_job d) 0 c.lines) (jobs_from (anacron_job d) 0 a.lines)
      (all_from (cron_job d) (IsListed (length d.groups)) (λ k l. cron_listed d k _) 0 c.lines)
      (all_from (anacron_job d) (IsListed (length d.groups)) (λ k l. anacron_listed d k _) 0 a.lines));
  few_groups = rw (length-map d.groups declared_group) (few_groups d v);
  names = distinct_names d.groups (facts d v).distinct;
  capacity = capacity_possible d v;
  hours = hours_possible d v;
  pass = pass_possible d v;
  offset = offset;
}
