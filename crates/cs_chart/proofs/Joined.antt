-- Bars that are joined over a gap.
use Rattle.std.proofs.Common.{◌≡◌, ◌⊎◌, ℕ, ◌+◌, ◌-◌, ◌<◌, ◌≤◌, max, Bool, true, false, ◌||◌, List, refl, subst, take, get_or, length, inl, inr, arith}
use Rattle.std.proofs.lemmas.List.Folds.{list_any_at, list_any_more}
use Rattle.std.proofs.lemmas.Bool.{and_parts, and_from, leb-true, ltb-true, le-leb, lt-ltb, cases_lt}
use Rattle.cs_chart.specs.declared.bar.Bar.{Bar}
use Rattle.cs_chart.specs.Bars.{covers, is_covered, IsInGap, IsBarOf, AreBarsOf}

abbrev IsNear : (ℕ → Bool) → ℕ → ℕ → Type 0
IsNear held gap minute = (held minute ≡ true) ⊎ IsInGap held gap minute

within : (bar : Bar) (minute : ℕ) → covers bar minute ≡ true → (bar.from ≤ minute) × (minute < bar.to)
within bar minute h = let p = and_parts _ _ h in (leb-true _ _ p.0, ltb-true _ _ p.1)

covered : (bar : Bar) (minute : ℕ) → bar.from ≤ minute → minute < bar.to → covers bar minute ≡ true
covered bar minute low high = and_from _ _ (le-leb _ _ low) (lt-ltb _ _ high)

pub joined : (held : ℕ → Bool) (gap : ℕ) (a b both : Bar) → IsBarOf held gap a → IsBarOf held gap b
    → a.from ≤ b.from → b.from < a.to + gap → both.from ≡ a.from → both.to ≡ max a.to b.to
    → IsBarOf held gap both
joined held gap a b both x y order near from to = record {
  some = omega (arith, x.some, from, to);
  first = rw from x.first;
  last = last_is (cases_lt a.to b.to);
  near = λ minute c. near_at minute (within both minute c) (cases_lt minute a.to);
}
  where
    last_is : (a.to < b.to) ⊎ (b.to ≤ a.to) → held (both.to - 1) ≡ true
    last_is (inl h) = let e : both.to ≡ b.to = omega (arith, to, h) in rw e y.last
    last_is (inr h) = let e : both.to ≡ a.to = omega (arith, to, h) in rw e x.last

    behind_a : (minute : ℕ) → minute < both.to → a.to ≤ minute → (minute < b.from) ⊎ (b.from ≤ minute) → IsNear held gap minute
    behind_a minute high h (inr k) = y.near minute (covered b minute k (omega (arith, to, high, h)))
    behind_a minute high h (inl k) = inr (record {
      before = a.to - 1;
      behind = b.from;
      held_before = x.last;
      held_behind = y.first;
      above = omega (arith, x.some, h);
      below = k;
      near = omega (arith, x.some, near);
    })

    near_at : (minute : ℕ) → (both.from ≤ minute) × (minute < both.to) → (minute < a.to) ⊎ (a.to ≤ minute) → IsNear held gap minute
    near_at minute w (inl h) = x.near minute (covered a minute (omega (arith, from, w.0)) h)
    near_at minute w (inr h) = behind_a minute w.1 h (cases_lt minute b.from)

-- a bar of a list covers its own minutes
pub own_bar : (bars : List Bar) (gap i : ℕ) (d : Bar) → i < length bars → (get_or bars i d).from < (get_or bars i d).to
    → IsBarOf (is_covered bars) gap (get_or bars i d)
own_bar bars gap i d lt some = record {
  some = some;
  first = held bar.from (covered bar bar.from (omega arith) some);
  last = held (bar.to - 1) (covered bar (bar.to - 1) (omega (arith, some)) (omega (arith, some)));
  near = λ minute c. inl (held minute c);
}
  where
    bar : Bar
    bar = get_or bars i d

    held : (minute : ℕ) → covers bar minute ≡ true → is_covered bars minute ≡ true
    held minute c = list_any_at (λ (b : Bar). covers b minute) bars i d lt c

-- the next bar is drawn
pub drawn_next : (bars : List Bar) (i : ℕ) (d : Bar) (old new : List Bar) (minute : ℕ) → i < length bars
    → ((is_covered old minute || covers (get_or bars i d) minute) ≡ true → is_covered new minute ≡ true)
    → (is_covered (take i bars) minute ≡ true → is_covered old minute ≡ true)
    → is_covered (take (i + 1) bars) minute ≡ true → is_covered new minute ≡ true
drawn_next bars i d old new minute lt more before h =
    more (step (is_covered (take i bars) minute) (is_covered old minute) _ before (rw (list_any_more (λ (b : Bar). covers b minute) bars i d lt) at h))
  where
    step : (a b c : Bool) → (a ≡ true → b ≡ true) → (a || c) ≡ true → (b || c) ≡ true
    step true b c to h = rw (to refl) refl
    step false true c to h = refl
    step false false c to h = h

-- a bar without minutes covers none
pub none_next : (bars : List Bar) (i : ℕ) (d : Bar) (old : List Bar) (minute : ℕ) → i < length bars
    → (get_or bars i d).to ≤ (get_or bars i d).from
    → (is_covered (take i bars) minute ≡ true → is_covered old minute ≡ true)
    → is_covered (take (i + 1) bars) minute ≡ true → is_covered old minute ≡ true
none_next bars i d old minute lt none = drawn_next bars i d old old minute lt (by_test (is_covered old minute) (covers (get_or bars i d) minute) refl)
  where
    by_test : (a b : Bool) → covers (get_or bars i d) minute ≡ b → (a || b) ≡ true → a ≡ true
    by_test true b is h = refl
    by_test false false is h = h
    by_test false true is h = let w = within (get_or bars i d) minute is in absurd (omega (arith, w.0, w.1, none))

-- the same of the bars that are passed on
pub drawn_of : (held : ℕ → Bool) (bars slice drawn shown : List Bar) (gap width : ℕ) → slice ≡ bars → gap ≡ width → shown ≡ drawn
    → ((minute : ℕ) → is_covered bars minute ≡ held minute) → AreBarsOf (is_covered slice) gap drawn → AreBarsOf held width shown
drawn_of held bars slice drawn shown gap width e f g is a =
    let same : is_covered bars ≡ held = λ i minute. is minute i in
    rw (g, ← f) (subst (λ (h : ℕ → Bool). AreBarsOf h gap drawn) same (rw e at a))
