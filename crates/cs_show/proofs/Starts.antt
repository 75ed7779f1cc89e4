-- A text or list that grows by a part for each number of a range.
use Rattle.std.proofs.Common.{◌≡◌, ℕ, zero, suc, ◌+◌, List, ◌++◌, flat_map, append_assoc, append-nil, refl, sym, ap, ◌∙◌, arith}
use Rattle.std.specs.List.{range_with_len}

later : {X : Type 0} (f : ℕ → List X) (a k j : ℕ) → a + k ≡ j → flat_map f (range_with_len a (suc k)) ≡ flat_map f (range_with_len a k) ++ f j
later f a zero j e = let same : a ≡ j = omega arith in rw same (append-nil (f j))
later f a (suc k) j e =
    ap (λ rest. f a ++ rest) (later f (a + 1) k j (omega arith))
    ∙ sym (append_assoc (f a) (flat_map f (range_with_len (a + 1) k)) (f j))

pub range_more : {X : Type 0} (f : ℕ → List X) (a k : ℕ) → flat_map f (range_with_len a (k + 1)) ≡ flat_map f (range_with_len a k) ++ f (a + k)
range_more f a k =
    let one-more : k + 1 ≡ suc k = omega arith in
    ap (λ n. flat_map f (range_with_len a n)) one-more ∙ later f a k (a + k) refl

pub same_range : {X : Type 0} (f : ℕ → List X) (xs : List X) (a b k j : ℕ) → xs ≡ flat_map f (range_with_len a k) → a ≡ b → k ≡ j → xs ≡ flat_map f (range_with_len b j)
same_range f xs a b k j h e g = rw (← e, ← g) h
