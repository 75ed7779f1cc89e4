-- The table that a place is in.
use Rattle.std.proofs.Common.{◌≡◌, ◌≢◌, ℕ, suc, ◌+◌, ◌<◌, ◌==◌, ◌||◌, true, false, ◌⊎◌, inl, inr, List, [], ◌∷◌, ◌++◌, length, get_or, take, drop, length-drop, get_or-drop, None, Some, refl, sym, ap, subst, ◌∙◌, arith}
use Rattle.std.specs.List.{list_any}
use Rattle.std.proofs.Math.Seq.{drop-cons}
use Rattle.std.proofs.lemmas.Bool.{eqb-true, false_from_ne_true}
use Rattle.std.proofs.lemmas.List.{get_or_at, length-append, take-append-drop}
use Rattle.memchr.specs.Find.{IsLastByte, is_byte}
use Rattle.cs_place.specs.Places.{place_of}
use Rattle.cs_place.specs.declared.places.Place.{Place}
use Rattle.cs_owner.specs.Owners.{IsFrom, IsIn, IsUnfitAbove, LacksOwner}
use Rattle.cs_owner.specs.declared.owners.Unowned.{Unowned}
use Rattle.cs_owner.specs.declared.owners.Unowned.TheVariants.{NoMemory, Unfit}

colonless : (xs : List ℕ) → ((k : ℕ) → k < length xs → ¬ ((get_or xs k 0 == 58) ≡ true)) → list_any (λ b. b == 58) xs ≡ false
colonless [] none = refl
colonless (x ∷ xs) none =
    let head : (x == 58) ≡ false = false_from_ne_true (x == 58) (none 0 (omega arith)) in
    ap (λ t. t || list_any (λ b. b == 58) xs) head ∙ colonless xs (λ k low. none (suc k) (omega (arith, low)))

module _ (xs : List ℕ) where
  pub at_last : (i : ℕ) → IsLastByte (is_byte 58) xs (Some i) → (number : List ℕ) × (xs ≡ take i xs ++ 58 ∷ number) × (list_any (λ b. b == 58) number ≡ false)
  at_last i last =
      let here : get_or xs i 0 ≡ 58 = eqb-true (get_or xs i 0) 58 last.1 in
      let within : i < length xs = last.0.high in
      let same : i + 1 ≡ suc i = omega arith in (
        drop (suc i) xs,
        sym (take-append-drop i xs) ∙ ap (λ (l : List ℕ). take i xs ++ l) (drop-cons xs i 0 within ∙ ap (λ (b : ℕ). b ∷ drop (suc i) xs) here),
        colonless (drop (suc i) xs) (λ k low is. last.0.after (suc i + k) (omega arith) (omega (arith, low, length-drop (suc i) xs)) (ap (λ b. b == 58) (sym (get_or-drop (suc i) xs k 0)) ∙ is)),
      )

  pub not_there : IsLastByte (is_byte 58) xs None → (table number : List ℕ) → xs ≢ table ++ 58 ∷ number
  not_there nowhere table number is =
      let within : length table < length xs = omega (arith, ap length is, length-append table (58 ∷ number)) in
      nowhere (length table) (omega arith) within (ap (λ (l : List ℕ). get_or l (length table) 0 == 58) is ∙ ap (λ (b : ℕ). b == 58) (get_or_at table 58 number 0 (length table) refl))

module _ (places : List Place) (number : ℕ) (place : Place) where
  pub not_from : Some place ≡ place_of places number → ((table : List ℕ) → ¬ (IsIn table place)) → (other : Place) (table : List ℕ) → ¬ (IsFrom places number other table)
  not_from here out other table from =
      let both : Some place ≡ Some other = here ∙ from.0 in
      let same : place ≡ other = cc in
      out table (subst (λ (p : Place). IsIn table p) (sym same) from.1)

  pub lacks : (text table : List ℕ) (fault : Unowned) → IsFrom places number place table → (fault ≡ NoMemory) ⊎ ((line : ℕ) × (fault ≡ Unfit line) × IsUnfitAbove number table text line) → LacksOwner text places number fault
  lacks text table fault from (inl is) = subst (LacksOwner text places number) (sym is) tt
  lacks text table fault from (inr (line, is, unfit)) = subst (LacksOwner text places number) (sym is) (place, table, from, unfit)
