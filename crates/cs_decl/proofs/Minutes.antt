-- The minutes of parts, and the first entry whose parts are bad.
use Rattle.std.proofs.Common.{◌≡◌, ℕ, zero, suc, ◌+◌, ◌<◌, List, [], ◌∷◌, Bool, true, false, ◌||◌, cond, length, get_or, Some, None, Option, option_map, refl, ap, sym, ◌∙◌, arith}
use Rattle.std.specs.Prelude.{position}
use Rattle.std.specs.List.{list_any}
use Rattle.cs_decl.specs.declared.entries.PartEntry.{PartEntry}
use Rattle.cs_decl.proofs.Positions.{first_at, position_is}

pub none_of : (p : PartEntry → Bool) (parts : List PartEntry) (i : ℕ) (d : PartEntry) → i < length parts → list_any p parts ≡ false → p (get_or parts i d) ≡ false
none_of p [] i d within none = absurd (omega (arith, within))
none_of p (x ∷ xs) zero d within none = head (p x) none
  where
    head : (b : Bool) → (b || list_any p xs) ≡ false → b ≡ false
    head true e = cc
    head false e = refl
none_of p (x ∷ xs) (suc i) d within none = none_of p xs i d (omega (arith, within)) (tail (p x) none)
  where
    tail : (b : Bool) → (b || list_any p xs) ≡ false → list_any p xs ≡ false
    tail true e = cc
    tail false e = e

abbrev pub first_from : {A : Type 0} → (A → Bool) → ℕ → List A → Option ℕ
first_from p i [] = None
first_from p i (x ∷ xs) = cond (p x) (Some i) (first_from p (i + 1) xs)

from_step : (b : Bool) (i : ℕ) (o r : Option ℕ) → r ≡ option_map (λ j. (i + 1) + j) o → cond b (Some i) r ≡ option_map (λ j. i + j) (cond b (Some 0) (option_map suc o))
from_step true i o r e = let z : i ≡ i + 0 = omega arith in ap Some z
from_step false i None r e = e
from_step false i (Some j) r e = let z : (i + 1) + j ≡ i + suc j = omega arith in e ∙ ap Some z

from_is : {A : Type 0} (p : A → Bool) (i : ℕ) (xs : List A) → first_from p i xs ≡ option_map (λ j. i + j) (first_at p xs)
from_is p i [] = refl
from_is p i (x ∷ xs) = from_step (p x) i (first_at p xs) (first_from p (i + 1) xs) (from_is p (i + 1) xs)

from_none : (o : Option ℕ) → option_map (λ j. 0 + j) o ≡ o
from_none None = refl
from_none (Some j) = let z : 0 + j ≡ j = omega arith in ap Some z

pub from_start : {A : Type 0} (p : A → Bool) (xs : List A) → first_from p 0 xs ≡ position p xs
from_start p xs = from_is p 0 xs ∙ (from_none (first_at p xs) ∙ sym (position_is p xs))
