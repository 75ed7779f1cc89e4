-- What the options of flock(1) ask for, one after another.
use Rattle.std.proofs.Common.{◌≡◌, ℕ, suc, ◌+◌, ◌-◌, ◌<◌, Bool, List, refl, arith}
use Rattle.std.specs.Prelude.{Some}
use Rattle.cs_command.specs.Locks.{asked_in, behind_option, with_option}
use Rattle.cs_command.specs.Words.{first_word}

one_more : (most : ℕ) (asked : Bool × Bool) (text rest : List ℕ) → behind_option text ≡ Some rest
    → asked_in (suc most) asked text ≡ asked_in most (with_option asked (first_word text)) rest
unfolding asked_in
one_more most asked text rest is = rw is refl

-- one of so many more
pub next_asked : (most i : ℕ) (asked more : Bool × Bool) (text rest : List ℕ) (last : Bool × Bool) → i < most → behind_option text ≡ Some rest → more ≡ with_option asked (first_word text)
    → asked_in (most - i) asked text ≡ last → asked_in (most - (i + 1)) more rest ≡ last
next_asked most i asked more text rest last low is new before =
    let next : most - i ≡ suc (most - (i + 1)) = omega (arith, low) in
    rw (new, ← one_more (most - (i + 1)) asked text rest is, ← next) before
