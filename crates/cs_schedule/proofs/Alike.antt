-- Where two words have the same bits, by their exclusive or.
use Rattle.std.proofs.Common.{◌≡◌, ℕ, zero, suc, ◌+◌, ◌*◌, ◌/◌, ◌%◌, ◌<◌, ◌≤◌, true, false, nat_eq, bit_xor, List, get_or, sym, ap, refl, ◌∙◌, arith, inl, inr}
use Rattle.std.specs.Int.{bit_at}
use Rattle.std.proofs.lemmas.Bool.{both_ways, cases_lt}
use Rattle.std.proofs.lemmas.Nat.Bits.{bit_at_xor, bit_at-lt}
use Rattle.cs_schedule.specs.Minutes.{is_in}

pub bits_same : (a b i : ℕ) → bit_at (bit_xor a b) i ≡ 0 → bit_at a i ≡ bit_at b i
bits_same a b i clear =
    let one = bit_at-lt a i in
    let other = bit_at-lt b i in
    let sum : (bit_at a i + bit_at b i) % 2 ≡ 0 = sym (bit_at_xor a b i) ∙ clear in
    omega arith

same_bit : (x y : ℕ) → x < 2 → y < 2 → nat_eq x 1 ≡ nat_eq y 1 → (x + y) % 2 ≡ 0
same_bit zero zero p q e = refl
same_bit zero (suc zero) p q e = absurd (both_ways false refl e)
same_bit zero (suc (suc y)) p q e = absurd (omega arith)
same_bit (suc zero) zero p q e = absurd (both_ways true e refl)
same_bit (suc (suc x)) zero p q e = absurd (omega arith)
same_bit (suc x) (suc y) p q e = omega arith

pub bits_clear : (a b i : ℕ) → nat_eq (bit_at a i) 1 ≡ nat_eq (bit_at b i) 1 → bit_at (bit_xor a b) i ≡ 0
bits_clear a b i same = bit_at_xor a b i ∙ same_bit (bit_at a i) (bit_at b i) (bit_at-lt a i) (bit_at-lt b i) same

abbrev pub xor_at : List ℕ → List ℕ → ℕ → ℕ
xor_at words others place = bit_xor (get_or words place 0) (get_or others place 0)

pub alike_before : (words others : List ℕ) (place unlike : ℕ) → ((i : ℕ) → i < unlike → bit_at (xor_at words others place) i ≡ 0)
    → (m : ℕ) → m / 64 ≡ place → m < 64 * place + unlike → is_in words m ≡ is_in others m
alike_before words others place unlike out m there before =
    rw there (ap (λ (b : ℕ). nat_eq b 1) (bits_same (get_or words place 0) (get_or others place 0) (m % 64) (out (m % 64) (omega arith))))

minute_of_bit : (words : List ℕ) (place bit : ℕ) → bit < 64 → is_in words (64 * place + bit) ≡ nat_eq (bit_at (get_or words place 0) bit) 1
minute_of_bit words place bit low =
    let there : (64 * place + bit) / 64 ≡ place = omega arith in
    let same : (64 * place + bit) % 64 ≡ bit = omega arith in
    rw (there, same) refl

-- if a word has the same minutes, the first bit that differs is past the word, or past the day
pub alike_past : (words others : List ℕ) (place unlike : ℕ) → unlike ≤ 64 → (unlike < 64 → bit_at (xor_at words others place) unlike ≡ 1)
    → ((m : ℕ) → m < 1440 → m / 64 ≡ place → is_in words m ≡ is_in others m) → 64 * place + unlike < 1440 → unlike ≡ 64
alike_past words others place unlike within set alike day =
    elim (cases_lt unlike 64) [
      | inl low ↦
          let is = alike (64 * place + unlike) day (omega arith) in
          let same = sym (minute_of_bit words place unlike low) ∙ is ∙ minute_of_bit others place unlike low in
          let clear = bits_clear (get_or words place 0) (get_or others place 0) unlike same in
          absurd (omega (arith, clear, set low))
      | inr high ↦ omega arith
    ]
