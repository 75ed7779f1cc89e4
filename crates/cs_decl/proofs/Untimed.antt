-- Guesses among the entries of a plan, and lines whose entries give no schedule.
use Rattle.std.proofs.Common.{◌≡◌, ◌↔◌, ℕ, ◌<◌, List, Bool, true, false, ◌&&◌, ◌||◌, map, length, get_or, Option, Some, None, Ok, refl, sym, ap, subst, ◌∙◌, arith}
use Rattle.std.specs.Prelude.{All, Contains, is_none, option_map}
use Rattle.std.specs.List.{list_any, find, count_by}
use Rattle.std.proofs.lemmas.Bool.{lt-ltb, ltb-true}
use Rattle.std.proofs.lemmas.List.Folds.{list_any-append, list_any_at}
use Rattle.cs_crontab.specs.Crontab.{Table as Crontab, CommandLine}
use Rattle.cs_anacrontab.specs.Anacrontab.{Table as Anacrontab}
use Rattle.cs_decl.specs.declared.entries.LineName.{LineName}
use Rattle.cs_decl.specs.declared.entries.Entries.{Entries}
use Rattle.cs_plan.specs.Plan.{Declared}
use Rattle.cs_decl.specs.Join.{is_named, is_untimed, is_untimed_name, untimed, guessed, plan_of, joined}
use Rattle.cs_decl.specs.Lines.{names_of, IsUntimed}
use Rattle.cs_plan.proofs.Plains.{find_none}
use Rattle.cs_decl.proofs.Once.{any_map, count_none, found_there, one_at, passing}
use Rattle.cs_decl.proofs.Commands.{plan_is}

both : (a b : Bool) → (a && b) ≡ true → (a ≡ true) × (b ≡ true)
both true b e = (refl, e)
both false b e = absurd cc

none_is : {A : Type 0} (o : Option A) → is_none o ≡ true → o ≡ None
none_is None e = refl
none_is (Some x) e = absurd cc

no_count : {A : Type 0} (p : A → Bool) (xs : List A) (k : ℕ) (x : A) → count_by p xs ≡ 0 → k < length xs → (b : Bool) → p (get_or xs k x) ≡ b → p (get_or xs k x) ≡ false
no_count p xs k x none low false e = e
no_count p xs k x none low true e = absurd (omega (arith, none, one_at p xs k x low e))

none_counted : {A : Type 0} (p : A → Bool) (xs : List A) → count_by p xs ≡ 0 → All (λ x. p x ≡ false) xs
none_counted p xs none = λ k x low. no_count p xs k x none low (p (get_or xs k x)) refl

abbrev tells_no_schedule : CommandLine → LineName → Bool
tells_no_schedule line name = is_named name line && is_untimed_name name

among_names : (d : Entries) (line : CommandLine) → list_any (tells_no_schedule line) (names_of d)
    ≡ (list_any (λ e. tells_no_schedule line e.name) d.cron || list_any (tells_no_schedule line) d.left_out)
among_names d line =
    list_any-append (tells_no_schedule line) (map (λ e. e.name) d.cron) d.left_out ∙ ap (λ b. b || list_any (tells_no_schedule line) d.left_out) (any_map (λ e. e.name) (tells_no_schedule line) d.cron)

found_untimed : (d : Entries) (lines : List CommandLine) (line : CommandLine) → is_untimed d lines line ≡ true → IsUntimed d lines line
found_untimed d lines line e =
    let (one, shared) = both _ _ e in
    let (name, there, is) = passing (tells_no_schedule line) (names_of d) (among_names d line ∙ one) in
    let (named, bare) = both _ _ is in
    let (has, none) = both _ _ bare in
    (name, there, named, has, none_is name.when none, ltb-true 1 _ shared)

is_found : (d : Entries) (lines : List CommandLine) (line : CommandLine) → IsUntimed d lines line → is_untimed d lines line ≡ true
is_found d lines line (name, (k, low, at), named, has, none, shared) =
    let is : tells_no_schedule line name ≡ true = rw (named, has, none) refl in
    let one : list_any (tells_no_schedule line) (names_of d) ≡ true = list_any_at (tells_no_schedule line) (names_of d) k name low (rw at is) in
    rw (sym (among_names d line) ∙ one, lt-ltb 1 _ shared) refl

module _ (c : Crontab) (a : Anacrontab) (d : Entries) (plan : Declared) (made : joined c a d ≡ Ok plan) where
  is_guessed : plan.guessed ≡ guessed d
  unfolding plan_of
  is_guessed = subst (λ (p : Declared). p.guessed ≡ guessed d) (plan_is c a d plan made) refl

  is_untimed_of : plan.untimed ≡ untimed d c.lines
  unfolding plan_of
  is_untimed_of = subst (λ (p : Declared). p.untimed ≡ untimed d c.lines) (plan_is c a d plan made) refl

  pub guesses : (plan.guessed ≡ 0) ↔ (All (λ e. e.guess ≡ false) d.cron × All (λ e. e.guess ≡ false) d.anacron)
  guesses = (
    (λ none. (none_counted (λ e. e.guess) d.cron (omega (arith, none, is_guessed)), none_counted (λ e. e.guess) d.anacron (omega (arith, none, is_guessed)))),
    (λ (crons, anacrons). omega (arith, is_guessed, count_none (λ e. e.guess) d.cron crons, count_none (λ e. e.guess) d.anacron anacrons)),
  )

  first_line : (o : Option CommandLine) (n : ℕ) → find (is_untimed d c.lines) c.lines ≡ o → option_map (λ line. line.number) o ≡ Some n → (line : CommandLine) × Contains c.lines line × (line.number ≡ n) × IsUntimed d c.lines line
  first_line None n found e = absurd cc
  first_line (Some line) n found e = let (there, is) = found_there (is_untimed d c.lines) c.lines line found in (line, there, cc, found_untimed d c.lines line is)

  pub told_line : (n : ℕ) → plan.untimed ≡ Some n → (line : CommandLine) × Contains c.lines line × (line.number ≡ n) × IsUntimed d c.lines line
  told_line n is = first_line (find (is_untimed d c.lines) c.lines) n refl (sym is_untimed_of ∙ is)

  none_found : (o : Option CommandLine) → option_map (λ line. line.number) o ≡ None → o ≡ None
  none_found None e = refl
  none_found (Some line) e = absurd cc

  pub no_line : plan.untimed ≡ None → All (λ line. IsUntimed d c.lines line → ⊥) c.lines
  no_line none = λ k line low is.
      let never = find_none (is_untimed d c.lines) c.lines (none_found (find (is_untimed d c.lines) c.lines) (sym is_untimed_of ∙ none)) in
      let yes = is_found d c.lines (get_or c.lines k line) is in
      let no = never k line low in
      cc
