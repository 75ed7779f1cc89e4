use Rattle.std.proofs.Common.{◌≡◌, Bool, ◌&&◌, List, [], ◌∷◌, map, refl, ap}
use Rattle.std.specs.List.{list_all}
use Rattle.cs_daytree.specs.Rising.{each_next}

pub all_seen : {A B : Type 0} (f : A → B) (p : B → Bool) (xs : List A) → list_all p (map f xs) ≡ list_all (λ x. p (f x)) xs
all_seen f p [] = refl
all_seen f p (x ∷ xs) = ap (λ b. p (f x) && b) (all_seen f p xs)

pub next_seen : {A B : Type 0} (f : A → B) (test : B → B → Bool) (xs : List A) → each_next test (map f xs) ≡ each_next (λ x y. test (f x) (f y)) xs
next_seen f test [] = refl
next_seen f test (x ∷ []) = refl
next_seen f test (x ∷ y ∷ xs) = ap (λ b. test (f x) (f y) && b) (next_seen f test (y ∷ xs))
