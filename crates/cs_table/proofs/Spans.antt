-- The front and the rest of a text that is written of two parts.
use Rattle.std.proofs.Common.{◌≡◌, ◌≢◌, ℕ, Bool, true, false, not, cond, ◌&&◌, nat_eq, List, [], ◌∷◌, ◌++◌, length, refl, ap, arith}
use Rattle.std.specs.List.{list_all}
use Rattle.std.proofs.lemmas.Bool.{eqb-true, false_from_ne_true}
use Rattle.cs_table.specs.Text.{front, after, is_blank, is_solid, Are, StopsAt}

pub and_left : (a b : Bool) → (a && b) ≡ true → a ≡ true
and_left true b e = refl
and_left false b e = absurd cc

pub and_right : (a b : Bool) → (a && b) ≡ true → b ≡ true
and_right true b e = e
and_right false b e = absurd cc

module _ (p : ℕ → Bool) where
  -- what was written is found again
  pub front_again : (x rest : List ℕ) → list_all p x ≡ true → StopsAt p rest → front p (x ++ rest) ≡ x
  unfolding front
  front_again [] [] all stop = refl
  front_again [] (b ∷ bs) all stop = rw stop refl
  front_again (b ∷ bs) rest all stop = rw (and_left (p b) (list_all p bs) all) (ap (λ (l : List ℕ). b ∷ l) (front_again bs rest (and_right (p b) (list_all p bs) all) stop))

  pub after_again : (x rest : List ℕ) → list_all p x ≡ true → StopsAt p rest → after p (x ++ rest) ≡ rest
  unfolding after
  after_again [] [] all stop = refl
  after_again [] (b ∷ bs) all stop = rw stop refl
  after_again (b ∷ bs) rest all stop = rw (and_left (p b) (list_all p bs) all) (after_again bs rest (and_right (p b) (list_all p bs) all) stop)

  pub parts_joined : (xs : List ℕ) → front p xs ++ after p xs ≡ xs
  unfolding front after
  parts_joined [] = refl
  parts_joined (b ∷ bs) = by_test (p b) (parts_joined bs)
    where
      by_test : (t : Bool) → front p bs ++ after p bs ≡ bs → cond t (b ∷ front p bs) [] ++ cond t (after p bs) (b ∷ bs) ≡ b ∷ bs
      by_test true e = ap (λ (l : List ℕ). b ∷ l) e
      by_test false e = refl

  pub front_passes : (xs : List ℕ) → list_all p (front p xs) ≡ true
  unfolding front
  front_passes [] = refl
  front_passes (b ∷ bs) = by_test (p b) refl (front_passes bs)
    where
      by_test : (t : Bool) → p b ≡ t → list_all p (front p bs) ≡ true → list_all p (cond t (b ∷ front p bs) []) ≡ true
      by_test true is e = rw is e
      by_test false is e = refl

  pub after_stops : (xs : List ℕ) → StopsAt p (after p xs)
  unfolding after
  after_stops [] = tt
  after_stops (b ∷ bs) = by_test (p b) refl (after_stops bs)
    where
      by_test : (t : Bool) → p b ≡ t → StopsAt p (after p bs) → StopsAt p (cond t (after p bs) (b ∷ bs))
      by_test true is e = e
      by_test false is e = is

pub list_all_weaker : (p q : ℕ → Bool) → ((b : ℕ) → p b ≡ true → q b ≡ true) → (xs : List ℕ) → list_all p xs ≡ true → list_all q xs ≡ true
list_all_weaker p q weaker [] all = refl
list_all_weaker p q weaker (b ∷ bs) all = rw (weaker b (and_left (p b) (list_all p bs) all)) (list_all_weaker p q weaker bs (and_right (p b) (list_all p bs) all))

pub list_all_joined : (p : ℕ → Bool) (xs ys : List ℕ) → list_all p xs ≡ true → list_all p ys ≡ true → list_all p (xs ++ ys) ≡ true
list_all_joined p [] ys first second = second
list_all_joined p (b ∷ bs) ys first second = rw (and_left (p b) (list_all p bs) first) (list_all_joined p bs ys (and_right (p b) (list_all p bs) first) second)

pub some_from : (xs : List ℕ) → nat_eq (length xs) 0 ≡ false → xs ≢ []
some_from [] e eq = absurd cc
some_from (x ∷ xs) e eq = cc

pub some_to : (xs : List ℕ) → xs ≢ [] → nat_eq (length xs) 0 ≡ false
some_to [] some = absurd (some refl)
some_to (x ∷ xs) some = false_from_ne_true (nat_eq (length (x ∷ xs)) 0) (λ e. absurd (omega (arith, eqb-true (length (x ∷ xs)) 0 e)))

pub front_some : (text : List ℕ) → text ≢ [] → StopsAt is_blank text → front is_solid text ≢ []
unfolding front
front_some [] some stop = absurd (some refl)
front_some (b ∷ bs) some stop = rw stop (λ e. cc)

pub gap_some : (xs : List ℕ) → StopsAt is_solid xs → after is_blank xs ≢ [] → front is_blank xs ≢ []
unfolding front after
gap_some [] stop some = absurd (some refl)
gap_some (b ∷ bs) stop some = let blank : is_blank b ≡ true = not_false (is_blank b) stop in rw blank (λ e. cc)
  where
    not_false : (t : Bool) → not t ≡ false → t ≡ true
    not_false true e = refl
    not_false false e = absurd cc

pub gap_stops : (gap rest : List ℕ) → Are is_blank gap → StopsAt is_solid (gap ++ rest)
gap_stops [] rest are = absurd (are.1 refl)
gap_stops (b ∷ bs) rest are = blank_first (is_blank b) (list_all is_blank bs) are.0
  where
    blank_first : (t u : Bool) → (t && u) ≡ true → not t ≡ false
    blank_first true u e = refl
    blank_first false u e = absurd cc

pub joined_some : (word more : List ℕ) → word ≢ [] → word ++ more ≢ []
joined_some [] more some e = some refl
joined_some (b ∷ bs) more some e = cc
