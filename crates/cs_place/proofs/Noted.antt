use Rattle.std.proofs.Common.{◌≡◌, ◌∙◌, ℕ, List, [], ◌∷◌, ◌++◌, append_assoc, Option, None, Some, refl, sym, ap}
use Rattle.cs_place.specs.Places.{part_in, parts_in, with_part}

pub no_lines : parts_in [] ≡ []
unfolding parts_in
no_lines = refl

module _ (line : List ℕ) (lines : List (List ℕ)) where
  pub no_part : part_in line ≡ None → parts_in (line ∷ lines) ≡ []
  unfolding parts_in
  no_part none = ap (λ (p : Option (List ℕ)). with_part p (parts_in lines)) none

  pub one_part : (before : List (List ℕ)) (name : List ℕ) → part_in line ≡ Some name → (before ++ name ∷ []) ++ parts_in lines ≡ before ++ parts_in (line ∷ lines)
  unfolding parts_in
  one_part before name some =
      append_assoc before (name ∷ []) (parts_in lines)
      ∙ ap (λ (p : Option (List ℕ)). before ++ with_part p (parts_in lines)) (sym some)
