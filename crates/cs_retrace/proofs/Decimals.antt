-- The number that digits write, cut off at a limit.
use Rattle.std.proofs.Common.{◌≡◌, ℕ, suc, ◌+◌, ◌*◌, ◌-◌, ◌<◌, ◌≤◌, List, [], ◌∷◌, length, get_or, drop, min, refl, ap, ◌∙◌, arith}
use Rattle.std.proofs.Math.Seq.{drop-cons}
use Rattle.std.proofs.Math.ListN.{drop_of_length-le}
use Rattle.cs_table.specs.Text.{decimal_from}
use Rattle.cs_table.proofs.Fronts.{decimal_next, decimal_end}

cut_same : (m n d : ℕ) → min 1_000_000_000_000 m ≡ min 1_000_000_000_000 n → min 1_000_000_000_000 (10 * m + (d - 48)) ≡ min 1_000_000_000_000 (10 * n + (d - 48))
cut_same m n d e = omega arith

decimal_cut : (digits : List ℕ) (m n : ℕ) → min 1_000_000_000_000 m ≡ min 1_000_000_000_000 n → min 1_000_000_000_000 (decimal_from m digits) ≡ min 1_000_000_000_000 (decimal_from n digits)
decimal_cut [] m n e = rw (decimal_end m, decimal_end n) e
decimal_cut (d ∷ digits) m n e = rw (decimal_next m d digits, decimal_next n d digits) (decimal_cut digits (10 * m + (d - 48)) (10 * n + (d - 48)) (cut_same m n d e))

-- one digit more
pub one_digit : (text : List ℕ) (i v w : ℕ) → i < length text → min 1_000_000_000_000 w ≡ min 1_000_000_000_000 (10 * v + (get_or text i 0 - 48))
    → min 1_000_000_000_000 (decimal_from w (drop (i + 1) text)) ≡ min 1_000_000_000_000 (decimal_from v (drop i text))
one_digit text i v w below e =
    let d : ℕ = get_or text i 0 in
    let here : drop i text ≡ d ∷ drop (suc i) text = drop-cons text i 0 below in
    let next : suc i ≡ i + 1 = omega arith in
    decimal_cut (drop (i + 1) text) w (10 * v + (d - 48)) e
    ∙ rw (here, decimal_next v d (drop (suc i) text), next) refl

-- no digit more
pub all_digits : (text : List ℕ) (i v : ℕ) → length text ≤ i → decimal_from v (drop i text) ≡ v
all_digits text i v past = ap (decimal_from v) (drop_of_length-le text past) ∙ decimal_end v
