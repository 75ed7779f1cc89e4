-- The plain plan of tables is whole.
use Rattle.std.proofs.Common.{◌≡◌, ◌≢◌, ℕ, ◌+◌, ◌≤◌, List, [], ◌∷◌, ◌++◌, Bool, true, false, cond, map, length, Some, None, refl, ap, ◌∙◌, arith}
use Rattle.std.specs.Prelude.{All}
use Rattle.std.specs.List.{find}
use Rattle.std.proofs.lemmas.List.{drop_at, length-map}
use Rattle.std.proofs.lemmas.List.FromFn.{length-range_with_len}
use Rattle.std.proofs.lemmas.List.Elements.{All-nil, All-cons, All-append, All-weaker}
use Rattle.cs_crontab.specs.Crontab.{Table as Crontab, CommandLine}
use Rattle.cs_crontab.specs.declared.table.When.{When}
use Rattle.cs_crontab.specs.declared.table.When.TheVariants.{At, Reboot}
use Rattle.cs_crontab.specs.declared.limits.TheConstants.{MAX_COMMANDS}
use Rattle.cs_anacrontab.specs.Anacrontab.{Table as Anacrontab, IsPossible as IsPossibleLine}
use Rattle.cs_anacrontab.specs.declared.limits.TheConstants.{MAX_JOBS}
use Rattle.cs_history.specs.declared.mode.Mode.TheVariants.{Plain}
use Rattle.cs_plan.specs.Job.{DeclaredJob, IsPossible}
use Rattle.cs_plan.specs.Plan.{IsWhole, IsTimed, IsListed, places_of}
use Rattle.cs_plan.specs.Reboot.{is_reboot}
use Rattle.cs_plan.specs.declared.limits.TheConstants.{MAX_MINUTES}
use Rattle.cs_plan.specs.Plain.{plain_job, plain_plan}

find_step : {A : Type 0} (p : A → Bool) (x : A) (xs : List A) (b : Bool) → p x ≡ b → cond b (Some x) (find p xs) ≡ None → (find p xs ≡ None → All (λ y. p y ≡ false) xs) → All (λ y. p y ≡ false) (x ∷ xs)
find_step p x xs true is e more = absurd cc
find_step p x xs false is e more = All-cons (λ y. p y ≡ false) x xs is (more e)

pub find_none : {A : Type 0} (p : A → Bool) (xs : List A) → find p xs ≡ None → All (λ x. p x ≡ false) xs
find_none p [] e = All-nil (λ x. p x ≡ false)
find_none p (x ∷ xs) e = find_step p x xs (p x) refl e (find_none p xs)

pub map_append : {A B : Type 0} (f : A → B) (xs ys : List A) → map f (xs ++ ys) ≡ map f xs ++ map f ys
map_append f [] ys = refl
map_append f (x ∷ xs) ys = ap (λ zs. f x ∷ zs) (map_append f xs ys)

timed_line : (when : When) → is_reboot when ≡ false → when ≢ Reboot
timed_line (At schedule) e = λ h. absurd cc
timed_line Reboot e = absurd cc

pub timed : (lines : List CommandLine) → find (λ line. is_reboot line.when) lines ≡ None → All IsTimed lines
timed lines e = All-weaker (λ line. is_reboot line.when ≡ false) IsTimed (λ line h. timed_line line.when h) lines (find_none (λ line. is_reboot line.when) lines e)

plain_places : (max : ℕ) (places : List ℕ) → map (λ j. j.place) (map (plain_job max) places) ≡ places
plain_places max [] = refl
plain_places max (k ∷ places) = ap (λ ks. k ∷ ks) (plain_places max places)

all_plain : (P : DeclaredJob → Type 0) (max : ℕ) → ((k : ℕ) → P (plain_job max k)) → (places : List ℕ) → All P (map (plain_job max) places)
all_plain P max each [] = All-nil P
all_plain P max each (k ∷ places) = All-cons P (plain_job max k) (map (plain_job max) places) (each k) (all_plain P max each places)

pub plain_whole : (c : Crontab) (a : Anacrontab) (max : ℕ) → 1 ≤ max → max ≤ MAX_MINUTES → length c.lines ≤ MAX_COMMANDS → length a.lines ≤ MAX_JOBS → All IsPossibleLine a.lines → find (λ line. is_reboot line.when) c.lines ≡ None → IsWhole (plain_plan c a max)
unfolding plain_plan
plain_whole c a max low high few_commands few_lines lines no_reboot = record {
  few_commands = few_commands;
  few_lines = few_lines;
  timed = timed c.lines no_reboot;
  lines = lines;
  places = map_append (λ j. j.place) (map (plain_job max) (places_of c.lines)) (map (plain_job max) (places_of a.lines)) ∙ rw (plain_places max (places_of c.lines), plain_places max (places_of a.lines)) refl;
  possible =
      All-append IsPossible (map (plain_job max) (places_of c.lines)) (map (plain_job max) (places_of a.lines)) (all_plain IsPossible max possible_job (places_of c.lines))
      (all_plain IsPossible max possible_job (places_of a.lines));
  plain =
      rw
      (drop_at (map (plain_job max) (places_of c.lines)) (map (plain_job max) (places_of a.lines)) (length c.lines) (length-map (places_of c.lines) (plain_job max) ∙ length-range_with_len 0 (length c.lines)))
      (all_plain (λ job. job.mode ≡ Plain) max (λ k. refl) (places_of a.lines));
  listed =
      All-append (IsListed 0) (map (plain_job max) (places_of c.lines)) (map (plain_job max) (places_of a.lines)) (all_plain (IsListed 0) max (λ k. tt) (places_of c.lines))
      (all_plain (IsListed 0) max (λ k. tt) (places_of a.lines));
  few_groups = omega arith;
  names = λ i j d low high. absurd (omega (arith, high));
  capacity = (omega arith, omega arith);
  hours = (omega arith, omega arith);
  pass = tt;
  offset = omega arith;
}
  where
    possible_job : (k : ℕ) → IsPossible (plain_job max k)
    possible_job k = record { max = (low, high); weight = (omega arith, omega arith); lock = λ t. absurd cc }
