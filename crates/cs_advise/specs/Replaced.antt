-- Texts with one part replaced.
use Rattle.std.specs.Prelude.{◌≡◌, ◌==◌, ℕ, List, ◌++◌, false}
use Rattle.std.specs.List.{list_any}

-- all before the part and after it stays
pub record IsReplaced (old part put new : List ℕ) : Type 0 where
  pub front : List ℕ
  pub back : List ℕ
  pub was : old ≡ front ++ (part ++ back)
  pub is : new ≡ front ++ (put ++ back)

-- the part is on one line
abbrev pub IsOtherLine : List ℕ → List ℕ → List ℕ → Type 0
IsOtherLine old line new =
    (part : List ℕ) × (list_any (λ b. b == 10) part ≡ false) × IsReplaced old part line new
