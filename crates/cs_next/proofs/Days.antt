-- What days give one after the other.
use Rattle.std.proofs.Common.{◌≡◌, ℕ, zero, suc, ◌+◌, ◌-◌, ◌≤◌, ◌++◌, List, ◌∷◌, sym, ap, ◌∙◌, arith, length, take}
use Rattle.std.specs.Prelude.{flat_map}
use Rattle.std.specs.List.{range_with_len}
use Rattle.std.proofs.lemmas.List.{take-append-le}
use Rattle.std.proofs.lemmas.List.Concat.{flat_map-append}

range_join : (a j n : ℕ) → range_with_len a (j + n) ≡ range_with_len a j ++ range_with_len (a + j) n
range_join a zero n =
    let e : a ≡ a + 0 = omega arith in
    let l : 0 + n ≡ n = omega arith in
    ap (range_with_len a) l ∙ ap (λ b. range_with_len b n) e
range_join a (suc j) n =
    let l : suc j + n ≡ suc (j + n) = omega arith in
    let m : (a + 1) + j ≡ a + suc j = omega arith in
    ap (range_with_len a) l ∙ ap (λ xs. a ∷ xs) (range_join (a + 1) j n) ∙ ap (λ b. a ∷ (range_with_len (a + 1) j ++ range_with_len b n)) m

-- where some days give enough, more of them change nothing
pub enough : {A : Type 0} (f : ℕ → List A) (a k n count : ℕ) (items : List A) → k ≤ n → items ≡ flat_map f (range_with_len a k) → count ≤ length items → take count items ≡ take count (flat_map f (range_with_len a n))
enough f a k n count items few is much =
    let whole : k + (n - k) ≡ n = omega arith in
    let rest = flat_map f (range_with_len (a + k) (n - k)) in
    sym (take-append-le count items rest much)
    ∙ ap (λ xs. take count (xs ++ rest)) is
    ∙ ap (take count) (sym (flat_map-append f (range_with_len a k) (range_with_len (a + k) (n - k))))
    ∙ ap (λ xs. take count (flat_map f xs)) (sym (range_join a k (n - k)))
    ∙ ap (λ m. take count (flat_map f (range_with_len a m))) whole
