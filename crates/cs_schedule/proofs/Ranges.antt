-- A filter of the numbers of a range.
use Rattle.std.proofs.Common.{◌≡◌, ℕ, zero, suc, ◌+◌, ◌<◌, ◌≤◌, Bool, true, false, cond, ◌&&◌, ◌||◌, nat_eq, nat_lt, ◌≢◌, [], ◌∷◌, refl, sym, ap, ◌∙◌, arith, inl, inr, filter}
use Rattle.std.specs.List.{range_with_len}
use Rattle.std.proofs.lemmas.Bool.{eqb-true, ne_eqb, and_right, cases_lt, lt-ltb, le-ltb}
use Rattle.std.proofs.lemmas.Bool.Decides.{eqb_tells}
use Rattle.std.proofs.lemmas.Map.Views.{any-filter_same}
use Rattle.cs_schedule.specs.Numbers.{has, numbers_where}

pub has-range : (a k n : ℕ) → a ≤ n → n < a + k → has (range_with_len a k) n ≡ true
has-range a zero n low high = absurd (omega arith)
has-range a (suc k) n low high =
    elim (eqb_tells a n) [
      | inl same ↦ rw same.0 refl
      | inr other ↦ rw other.0 (let ne = other.1 in let low' : a + 1 ≤ n = omega arith in let high' : n < (a + 1) + k = omega arith in has-range (a + 1) k n low' high')
    ]

pub has-filter : (p : ℕ → Bool) (a k n : ℕ) → a ≤ n → n < a + k → has (filter p (range_with_len a k)) n ≡ p n
has-filter p a k n low high =
    any-filter_same (λ x. nat_eq x n) p (p n) (λ x e. ap p (eqb-true x n e)) (range_with_len a k)
    ∙ ap (λ b. p n && b) (has-range a k n low high) ∙ and-true (p n)
  where
    and-true : (b : Bool) → (b && true) ≡ b
    and-true true = refl
    and-true false = refl

pub filter_same : (p q : ℕ → Bool) (a k : ℕ) → ((n : ℕ) → a ≤ n → n < a + k → p n ≡ q n) → filter p (range_with_len a k) ≡ filter q (range_with_len a k)
filter_same p q a zero h = refl
filter_same p q a (suc k) h =
    rw (h a (omega arith) (omega arith)) (ap (λ rest. cond (q a) (a ∷ rest) rest) (filter_same p q (a + 1) k (λ n low high. h n (omega arith) (omega arith))))

pub has-numbers_where : (p : ℕ → Bool) (n : ℕ) → n < 64 → has (numbers_where p) n ≡ p n
unfolding numbers_where
has-numbers_where p n below = has-filter p 0 64 n (omega arith) (omega arith)

pub numbers_same : (p q : ℕ → Bool) → ((n : ℕ) → n < 64 → p n ≡ q n) → numbers_where p ≡ numbers_where q
unfolding numbers_where
numbers_same p q h = filter_same p q 0 64 (λ n low high. h n (omega arith))

-- which numbers below n + 1 pass, from those below n
below_next : (test : ℕ → Bool) (n k : ℕ) → k ≢ n → (nat_lt k (n + 1) && test k) ≡ (nat_lt k n && test k)
below_next test n k ne =
    elim (cases_lt k n) [
      | inl lt ↦ rw (lt-ltb k (n + 1) (omega arith), lt-ltb k n lt) refl
      | inr le ↦ rw (le-ltb k (n + 1) (omega arith), le-ltb k n le) refl
    ]

pub one_more_in : (test before after : ℕ → Bool) (n : ℕ) → test n ≡ true → ((k : ℕ) → k < 64 → before k ≡ (nat_lt k n && test k)) → ((k : ℕ) → k < 64 → after k ≡ (nat_eq k n || before k)) → (k : ℕ) → k < 64 → after k ≡ (nat_lt k (n + 1) && test k)
one_more_in test before after n passes old new k below =
    elim (eqb_tells k n) [
      | inl same ↦ new k below ∙ rw (same.0, same.1, passes, lt-ltb n (n + 1) (omega arith)) refl
      | inr other ↦ new k below ∙ rw other.0 (old k below ∙ sym (below_next test n k other.1))
    ]

pub one_more_out : (test before : ℕ → Bool) (n : ℕ) → test n ≡ false → ((k : ℕ) → k < 64 → before k ≡ (nat_lt k n && test k)) → (k : ℕ) → k < 64 → before k ≡ (nat_lt k (n + 1) && test k)
one_more_out test before n fails old k below =
    elim (eqb_tells k n) [
      | inl same ↦ old k below ∙ rw (same.1, fails, le-ltb n n (omega arith), lt-ltb n (n + 1) (omega arith)) refl
      | inr other ↦ old k below ∙ sym (below_next test n k other.1)
    ]

has-range_past : (a k n : ℕ) → a + k ≤ n → has (range_with_len a k) n ≡ false
has-range_past a zero n past = refl
has-range_past a (suc k) n past = rw (ne_eqb a n (λ e. absurd (omega (arith, e)))) (has-range_past (a + 1) k n (omega arith))

pub has-filter_past : (p : ℕ → Bool) (a k n : ℕ) → a + k ≤ n → has (filter p (range_with_len a k)) n ≡ false
has-filter_past p a k n past =
    any-filter_same (λ x. nat_eq x n) p (p n) (λ x e. ap p (eqb-true x n e)) (range_with_len a k)
    ∙ and_right (p n) (has (range_with_len a k) n) (has-range_past a k n past)

pub has-numbers_where_past : (p : ℕ → Bool) (n : ℕ) → 64 ≤ n → has (numbers_where p) n ≡ false
unfolding numbers_where
has-numbers_where_past p n past = has-filter_past p 0 64 n (omega arith)

pub filter_nothing : (p : ℕ → Bool) (a k : ℕ) → ((n : ℕ) → a ≤ n → n < a + k → p n ≡ false) → filter p (range_with_len a k) ≡ []
filter_nothing p a zero h = refl
filter_nothing p a (suc k) h = rw (h a (omega arith) (omega arith)) (filter_nothing p (a + 1) k (λ n low high. h n (omega arith) (omega arith)))
