-- Whether all of some numbers pass a test.
use Rattle.std.proofs.Common.{◌≡◌, ◌&&◌, ◌-◌, ◌+◌, ◌<◌, ◌∙◌, ℕ, suc, Bool, true, ap, arith}
use Rattle.std.specs.List.{list_all, range_with_len}

first_and_later : (p : ℕ → Bool) (n end : ℕ) → n < end
    → list_all p (range_with_len n (end - n)) ≡ (p n && list_all p (range_with_len (n + 1) (end - (n + 1))))
first_and_later p n end below =
    let one : end - n ≡ suc (end - (n + 1)) = omega arith in
    ap (λ (k : ℕ). list_all p (range_with_len n k)) one

pub passes_here : (p : ℕ → Bool) (n end : ℕ) → n < end → p n ≡ true
    → list_all p (range_with_len n (end - n)) ≡ list_all p (range_with_len (n + 1) (end - (n + 1)))
passes_here p n end below is = first_and_later p n end below ∙ ap (λ (b : Bool). b && list_all p (range_with_len (n + 1) (end - (n + 1)))) is
