-- The bounds of numbers that pass a test.
use Rattle.std.proofs.Common.{◌≡◌, ℕ, ◌-◌, ◌%◌, ◌≤◌, true, ◌&&◌, ◌||◌, All, nat_lt, nat_le, nat_eq, List, arith}
use Rattle.std.specs.List.{range_with_len}
use Rattle.std.proofs.lemmas.Bool.{and_parts, leb-true, ltb-true}
use Rattle.std.proofs.lemmas.List.Elements.{All-weaker, filter_passes}
use Rattle.cs_schedule.specs.Numbers.{numbers_where, has, is_every, in_week, is_in_week}

pub every_within : (first last step : ℕ) → All (λ n. (first ≤ n) × (n ≤ last)) (numbers_where (is_every first last step))
unfolding numbers_where
every_within first last step =
    All-weaker (λ n. is_every first last step n ≡ true) (λ n. (first ≤ n) × (n ≤ last)) bounds _ (filter_passes (is_every first last step) (range_with_len 0 64))
  where
    bounds : (n : ℕ) → is_every first last step n ≡ true → (first ≤ n) × (n ≤ last)
    bounds n e =
        let both = and_parts (nat_le first n) (nat_le n last) (and_parts (nat_le first n && nat_le n last) (nat_eq ((n - first) % step) 0) e).0 in
        (leb-true first n both.0, leb-true n last both.1)

pub week_within : (numbers : List ℕ) → All (λ n. n ≤ 6) (in_week numbers)
unfolding numbers_where
week_within numbers =
    All-weaker (λ n. is_in_week numbers n ≡ true) (λ n. n ≤ 6) bounds _ (filter_passes (is_in_week numbers) (range_with_len 0 64))
  where
    bounds : (n : ℕ) → is_in_week numbers n ≡ true → n ≤ 6
    bounds n e = omega (arith, ltb-true n 7 (and_parts (nat_lt n 7) (has numbers n || (nat_eq n 0 && has numbers 7)) e).0)
