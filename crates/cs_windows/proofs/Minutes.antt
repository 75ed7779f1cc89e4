use Rattle.std.proofs.Common.{◌≡◌, ℕ, zero, suc, ◌+◌, ◌-◌, ◌≤◌, ◌++◌, List, [], ◌∷◌, sym, ap, ◌∙◌, arith, append_assoc, append-nil}
use Rattle.std.specs.Prelude.{flat_map}
use Rattle.std.specs.List.{range_with_len}
use Rattle.std.proofs.lemmas.List.Concat.{flat_map-append}
use Rattle.cs_windows.specs.Windows.{day_minutes}

pub range_more : (a n : ℕ) → range_with_len a (suc n) ≡ range_with_len a n ++ (a + n) ∷ []
range_more a zero = let e : a ≡ a + 0 = omega arith in ap (λ x. x ∷ []) e
range_more a (suc n) = let e : (a + 1) + n ≡ a + suc n = omega arith in ap (λ l. a ∷ l) (range_more (a + 1) n) ∙ ap (λ x. a ∷ (range_with_len (a + 1) n ++ x ∷ [])) e

flat_more : {A : Type 0} (f : ℕ → List A) (a n : ℕ) → flat_map f (range_with_len a (suc n)) ≡ flat_map f (range_with_len a n) ++ f (a + n)
flat_more f a n =
    ap (flat_map f) (range_more a n) ∙ flat_map-append f (range_with_len a n) ((a + n) ∷ []) ∙ ap (λ xs. flat_map f (range_with_len a n) ++ xs) (append-nil (f (a + n)))

pub minutes_more : {A : Type 0} (f : ℕ → List A) (n : ℕ) → flat_map f (range_with_len 0 (n + 1)) ≡ flat_map f (range_with_len 0 n) ++ f n
minutes_more f n =
    let e : n + 1 ≡ suc n = omega arith in
    let z : 0 + n ≡ n = omega arith in
    ap (λ k. flat_map f (range_with_len 0 k)) e ∙ flat_more f 0 n ∙ ap (λ k. flat_map f (range_with_len 0 n) ++ f k) z

pub minutes_all : (n : ℕ) → n ≡ 1440 → range_with_len 0 n ≡ day_minutes
unfolding day_minutes
minutes_all n e = ap (range_with_len 0) e

-- the step of a loop over a range of minutes that adds what each gives
pub range_step : {A : Type 0} (f : ℕ → List A) (from minute : ℕ) (start now next : List A) → from ≤ minute → now ≡ start ++ flat_map f (range_with_len from (minute - from)) → next ≡ now ++ f minute → next ≡ start ++ flat_map f (range_with_len from (minute + 1 - from))
range_step f from minute start now next low h k =
    let n : minute + 1 - from ≡ suc (minute - from) = omega arith in
    let e : from + (minute - from) ≡ minute = omega arith in
    let old = flat_map f (range_with_len from (minute - from)) in
    k ∙ ap (λ xs. xs ++ f minute) h ∙ append_assoc start old (f minute)
    ∙ ap (λ xs. start ++ xs) (sym (ap (λ j. flat_map f (range_with_len from j)) n ∙ flat_more f from (minute - from) ∙ ap (λ m. old ++ f m) e))
