use Rattle.std.specs.Prelude.{ℕ, Bool, true, ◌&&◌, List, [], ◌∷◌, nat_lt}

-- each item and the next pass the test
abbrev pub each_next : {A : Type 0} → (A → A → Bool) → List A → Bool
each_next test [] = true
each_next test (a ∷ []) = true
each_next test (a ∷ b ∷ rest) = test a b && each_next test (b ∷ rest)

abbrev pub rises : List ℕ → Bool
rises numbers = each_next nat_lt numbers
