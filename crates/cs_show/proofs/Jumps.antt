-- The day of a jump is the first such weekday from its earliest day on.
use Rattle.std.proofs.Common.{◌≡◌, ℕ, ◌+◌, ◌-◌, ◌%◌, ◌<◌, ◌≤◌, ◌==◌, ◌&&◌, leb, ltb, arith}
use Rattle.std.proofs.lemmas.Bool.Decides.{nat_tests}

-- such a weekday in these seven days
there : (e w m d : ℕ) → e ≤ 351 → m ≤ 365 → w ≤ 6 → d ≤ 6 → d ≡ w → e ≤ m → m < e + 7 → e + (w + 7 - (d + 371 + e - m) % 7) % 7 ≡ m
there e w m d a b c f g h i = omega arith

same : (e w m d : ℕ) → e ≤ 351 → m ≤ 365 → w ≤ 6 → d ≤ 6 → e + (w + 7 - (d + 371 + e - m) % 7) % 7 ≡ m → d ≡ w
same e w m d a b c f g = omega arith

near : (e w m d : ℕ) → e + (w + 7 - (d + 371 + e - m) % 7) % 7 ≡ m → (e ≤ m) × (m < e + 7)
near e w m d g = (omega arith, omega arith)

pub is_first : (e w m d : ℕ) → e ≤ 351 → m ≤ 365 → w ≤ 6 → d ≤ 6 → ((d == w) && (leb e m && ltb m (e + 7))) ≡ (e + (w + 7 - (d + 371 + e - m) % 7) % 7 == m)
is_first e w m d a b c f = grind (arith, nat_tests, there e w m d a b c f, same e w m d a b c f, near e w m d)
