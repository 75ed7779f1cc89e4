-- The length of the stretches is the smallest that no window outlasts.
use Rattle.std.proofs.Common.{ℕ, ◌+◌, ◌-◌, ◌*◌, ◌<◌, ◌≤◌, ◌≡◌, ◌==◌, ◌||◌, not, Bool, true, false, refl, subst, arith, ⊎_elim, if◌then◌else◌}
use Rattle.std.specs.Prelude.{nat_le}
use Rattle.std.specs.List.{AllByRecursion, list_all}
use Rattle.std.proofs.lemmas.Bool.{both_ways, eqb-true, cases_eq}
use Rattle.cs_civil.specs.Calendar.{Kind}
use Rattle.cs_civil.specs.Order.{all_kinds}
use Rattle.cs_history.specs.Plan.{Plan, is_cron, IsPlan}
use Rattle.cs_history.specs.Calm.{reach}
use Rattle.cs_windows.specs.Windows.{day_minutes}
use Rattle.cs_theorem.specs.Accepted.{begins_on, EndWithin, IsLength, IsModest}
use Rattle.cs_theorem.specs.Faults.{fits, stretch_length}
use Rattle.cs_theorem.proofs.Elements.{all_has}
use Rattle.cs_theorem.proofs.Chains.{kind_listed, listed_kind}
use Rattle.cs_theorem.proofs.Says.{Tells, tells_to, tells_all, tells_below, tells_minutes, tells_if, all_from_has}
use Rattle.cs_theorem.proofs.Points.{tells_le}

module _ (p : Plan) (plan : IsPlan p) (on : ℕ → Kind → ℕ → Bool) (c : ℕ → ℕ) where
  abbrev Short : ℕ → ℕ → Kind → Type 0
  Short k j q = (m : ℕ) → m < 1440 → begins_on p on j q m ≡ true → m + reach p c j ≤ 1440 * k

  tells_fits : (k : ℕ) → Tells (fits p on c k) (EndWithin p on c k)
  tells_fits k = tells_to (fits p on c k) ((j : ℕ) → j < p.jobs → AllByRecursion (Short k j) all_kinds) (EndWithin p on c k)
      (tells_below (λ j. list_all (λ q. list_all (λ m. not (begins_on p on j q m) || nat_le (m + reach p c j) (1440 * k)) day_minutes) all_kinds) (λ j. AllByRecursion (Short k j) all_kinds) p.jobs
      (λ j. tells_all (λ q. list_all (λ m. not (begins_on p on j q m) || nat_le (m + reach p c j) (1440 * k)) day_minutes) (Short k j)
      (λ q. tells_minutes (λ m. not (begins_on p on j q m) || nat_le (m + reach p c j) (1440 * k)) (λ m. begins_on p on j q m ≡ true → m + reach p c j ≤ 1440 * k)
      (λ m. tells_if (begins_on p on j q m) (nat_le (m + reach p c j) (1440 * k)) (m + reach p c j ≤ 1440 * k) (tells_le (m + reach p c j) (1440 * k)))) all_kinds))
      (λ h j m q known lt is b. all_has (Short k j) all_kinds q (h j known) (kind_listed q is) m lt b)
      (λ h j known. all_from_has (Short k j) all_kinds (λ q has m lt b. h j m q known lt (listed_kind q has) b))

  four_step : (j m : ℕ) (q : Kind) → IsModest p c → m < 1440 → (b : Bool) → is_cron p j ≡ b → (if b then on j q m else (m == p.from)) ≡ true → reach p c j ≡ (if b then reach p c j else ((p.to - 1 + p.limit j) - p.from)) → m + reach p c j ≤ 1440 * 4
  four_step j m q modest lt true e h k = omega (arith, modest.cron j e, lt)
  four_step j m q modest lt false e h k = let f : m ≡ p.from = eqb-true m p.from h in omega (arith, modest.catch j e, f, k, plan.hours.0, plan.hours.1)

  if_self : (b : Bool) (x y : ℕ) → (if b then x else y) ≡ (if b then (if b then x else y) else y)
  if_self true x y = refl
  if_self false x y = refl

  four_days : IsModest p c → EndWithin p on c 4
  four_days modest j m q known lt is b = four_step j m q modest lt (is_cron p j) refl b (if_self (is_cron p j) _ ((p.to - 1 + p.limit j) - p.from))

  length_step : IsModest p c → (x y : Bool) → fits p on c 2 ≡ x → fits p on c 3 ≡ y → IsLength p on c (if x then 2 else (if y then 3 else 4))
  length_step modest true y e f = record { range = (omega arith, omega arith); ends = (tells_fits 2).0 e; least = λ k l h. l }
  length_step modest false true e f = record {
    range = (omega arith, omega arith);
    ends = (tells_fits 3).0 f;
    least = λ k l h.
        ⊎_elim (λ (q : k ≡ 2). absurd (both_ways (fits p on c 2) e ((tells_fits 2).1 (subst (EndWithin p on c) q h)))) (λ (q : k ≡ 2 → ⊥). omega (arith, l, q)) (cases_eq k 2);
  }
  length_step modest false false e f = record {
    range = (omega arith, omega arith);
    ends = four_days modest;
    least = λ k l h.
        ⊎_elim (λ (q : k ≡ 2). absurd (both_ways (fits p on c 2) e ((tells_fits 2).1 (subst (EndWithin p on c) q h))))
        (λ (q : k ≡ 2 → ⊥). ⊎_elim (λ (r : k ≡ 3). absurd (both_ways (fits p on c 3) f ((tells_fits 3).1 (subst (EndWithin p on c) r h)))) (λ (r : k ≡ 3 → ⊥). omega (arith, l, q, r)) (cases_eq k 3)) (cases_eq k 2);
  }

  pub length_is : IsModest p c → IsLength p on c (stretch_length p on c)
  unfolding stretch_length
  length_is modest = length_step modest (fits p on c 2) (fits p on c 3) refl refl
