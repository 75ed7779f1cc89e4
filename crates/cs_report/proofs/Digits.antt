-- A number by its digits, cut at 2^32.
use Rattle.std.proofs.Common.{◌≡◌, ℕ, suc, ◌+◌, ◌*◌, ◌-◌, ◌<◌, ◌≤◌, List, [], ◌∷◌, length, get_or, drop, min, sym, ap, ◌∙◌, arith}
use Rattle.std.proofs.Math.Seq.{drop-cons}
use Rattle.std.proofs.Math.ListN.{drop_of_length-le}
use Rattle.cs_table.specs.Text.{decimal_from}
use Rattle.cs_table.proofs.Fronts.{decimal_next, decimal_end}

cut_same : (m n d : ℕ) → min 4_294_967_296 m ≡ min 4_294_967_296 n → min 4_294_967_296 (10 * m + (d - 48)) ≡ min 4_294_967_296 (10 * n + (d - 48))
cut_same m n d e = omega arith

pub cut : (digits : List ℕ) (m n : ℕ) → min 4_294_967_296 m ≡ min 4_294_967_296 n → min 4_294_967_296 (decimal_from m digits) ≡ min 4_294_967_296 (decimal_from n digits)
cut [] m n e = rw (decimal_end m, decimal_end n) e
cut (d ∷ digits) m n e = rw (decimal_next m d digits, decimal_next n d digits) (cut digits (10 * m + (d - 48)) (10 * n + (d - 48)) (cut_same m n d e))

-- one digit more
pub one_more : (digits : List ℕ) (i v next : ℕ) → i < length digits → next ≡ min 4_294_967_296 (v * 10 + (get_or digits i 0 - 48))
    → min 4_294_967_296 (decimal_from next (drop (i + 1) digits)) ≡ min 4_294_967_296 (decimal_from v (drop i digits))
one_more digits i v next below value =
    let d : ℕ = get_or digits i 0 in
    let e : suc i ≡ i + 1 = omega arith in
    let here : drop i digits ≡ d ∷ drop (i + 1) digits = drop-cons digits i 0 below ∙ ap (λ n. get_or digits i 0 ∷ drop n digits) e in
    let same : min 4_294_967_296 next ≡ min 4_294_967_296 (10 * v + (d - 48)) = omega (arith, value) in
    cut (drop (i + 1) digits) next (10 * v + (d - 48)) same
    ∙ ap (min 4_294_967_296) (sym (decimal_next v d (drop (i + 1) digits)) ∙ ap (decimal_from v) (sym here))

-- no digit more
pub no_more : (digits : List ℕ) (i v : ℕ) → length digits ≤ i → decimal_from v (drop i digits) ≡ v
no_more digits i v past = ap (decimal_from v) (drop_of_length-le digits past) ∙ decimal_end v
