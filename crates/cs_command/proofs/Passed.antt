-- What is passed, one after another.
use Rattle.std.proofs.Common.{◌≡◌, ℕ, suc, ◌+◌, ◌-◌, ◌<◌, List, refl, arith}
use Rattle.std.specs.Prelude.{Option, Some}
use Rattle.cs_command.specs.Words.{passed}

one_more : (behind : List ℕ → Option (List ℕ)) (most : ℕ) (text rest : List ℕ) → behind text ≡ Some rest
    → passed behind (suc most) text ≡ passed behind most rest
unfolding passed
one_more behind most text rest is = rw is refl

-- one of so many more
pub next_passed : (behind : List ℕ → Option (List ℕ)) (most i : ℕ) (text rest last : List ℕ) → i < most → behind text ≡ Some rest
    → passed behind (most - i) text ≡ last → passed behind (most - (i + 1)) rest ≡ last
next_passed behind most i text rest last low is before =
    let next : most - i ≡ suc (most - (i + 1)) = omega (arith, low) in
    rw (← one_more behind (most - (i + 1)) text rest is, ← next) before
