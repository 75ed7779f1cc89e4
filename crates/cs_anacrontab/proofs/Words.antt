-- Words: numbers in digits, and UTF-8.
use Rattle.std.proofs.Common.{◌≡◌, ◌≢◌, ◌<◌, ◌≤◌, ℕ, Bool, true, false, not, cond, ◌||◌, nat_lt, Option, List, [], ◌++◌, length, Some, None, Result, Ok, Err, MatchResult, refl, sym, ap, ◌∙◌}
use Rattle.std.specs.List.{list_all}
use Rattle.std.specs.Result.{is_ok}
use Rattle.std.specs.Str.{is_utf8, IsUtf8}
use Rattle.std.proofs.lemmas.Str.{is_utf8-from_IsUtf8, IsUtf8-from_is_utf8}
use Rattle.std.proofs.lemmas.Bool.{lt-ltb, le-ltb, eqb-true, false_from_ne_true}
use Rattle.std.proofs.lemmas.List.{append-nil, nil_from_length}
use Rattle.cs_table.specs.Text.{front, after, is_digit, decimal, is_nothing}
use Rattle.cs_table.proofs.Spans.{some_to, front_again, after_again, parts_joined, front_passes}
use Rattle.cs_anacrontab.specs.Reading.{number_of}

pub after_whole : (p : ℕ → Bool) (w : List ℕ) → list_all p w ≡ true → after p w ≡ []
after_whole p w all = ap (after p) (sym (append-nil w)) ∙ after_again p w [] all tt

pub whole_front : (p : ℕ → Bool) (w : List ℕ) → after p w ≡ [] → front p w ≡ w
whole_front p w none = sym (append-nil (front p w)) ∙ ap (λ (l : List ℕ). front p w ++ l) (sym none) ∙ parts_joined p w

pub all_front : (p : ℕ → Bool) (w : List ℕ) → after p w ≡ [] → list_all p w ≡ true
all_front p w none = ap (list_all p) (sym (whole_front p w none)) ∙ front_passes p w

module _ (high : ℕ) (w : List ℕ) where
  pub number_nothing : w ≡ [] → None ≡ number_of high w
  unfolding number_of
  number_nothing none = rw none refl

  pub number_other : after is_digit w ≢ [] → None ≡ number_of high w
  unfolding number_of
  number_other more =
      let e : list_all is_digit w ≡ false = false_from_ne_true (list_all is_digit w) (λ all. more (after_whole is_digit w all)) in
      rw e (by_test (is_nothing w))
    where
      by_test : (t : Bool) → None ≡ cond (t || true) None (cond (nat_lt high (decimal w)) None (Some (decimal w)))
      by_test true = refl
      by_test false = refl

  pub number_high : after is_digit w ≡ [] → high < decimal (front is_digit w) → None ≡ number_of high w
  unfolding number_of
  number_high none out =
      let e : nat_lt high (decimal w) ≡ true = lt-ltb high (decimal w) (rw (whole_front is_digit w none) at out) in
      rw e (by_test (is_nothing w || not (list_all is_digit w)))
    where
      by_test : (t : Bool) → None ≡ cond {A = Option ℕ} t None None
      by_test true = refl
      by_test false = refl

  pub number_in : w ≢ [] → after is_digit w ≡ [] → decimal (front is_digit w) ≤ high → Some (decimal (front is_digit w)) ≡ number_of high w
  unfolding number_of
  number_in some none low =
      let whole = whole_front is_digit w none in
      let within : decimal w ≤ high = rw whole at low in
      rw (some_to w some, all_front is_digit w none, le-ltb high (decimal w) within) (ap (λ (l : List ℕ). Some (decimal l)) whole)

pub utf8_ok : {X E : Type 0} (bs : List ℕ) (P : X → Type 0) (Q : E → Type 0) (r : Result X E) → MatchResult r (λ s. P s × IsUtf8 bs) (λ e. ¬ (IsUtf8 bs) × Q e) → is_ok r ≡ is_utf8 bs
utf8_ok bs P Q (Ok s) is = sym (is_utf8-from_IsUtf8 bs is.1)
utf8_ok bs P Q (Err e) is = sym (false_from_ne_true (is_utf8 bs) (λ u. is.0 (IsUtf8-from_is_utf8 bs u)))
