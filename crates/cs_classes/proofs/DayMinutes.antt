use Rattle.std.proofs.Common.{◌≡◌, ℕ, zero, suc, ◌+◌, ◌<◌, ◌≤◌, Bool, true, false, cond, ◌||◌, List, [], ◌∷◌, filter, All, nat_eq, refl, ap, ◌∙◌, subst, arith}
use Rattle.std.specs.List.{range_with_len}
use Rattle.std.proofs.lemmas.Bool.{eqb-true, eq-eqb, ne_eqb, both_ways}
use Rattle.std.proofs.lemmas.List.Elements.{All-nil, All-cons, All-head, All-tail}
use Rattle.cs_schedule.specs.Minutes.{minutes_where}
use Rattle.cs_schedule.specs.Numbers.{has}
use Rattle.cs_classes.specs.DayMinutes.{AreRising, AreRisingFrom}

lower : (least less : ℕ) (ms : List ℕ) → less ≤ least → AreRisingFrom least ms → AreRisingFrom less ms
lower least less [] le h = tt
lower least less (m ∷ ms) le h = (omega (arith, le, h.0), h.1, h.2)

range_rising : (p : ℕ → Bool) (a n : ℕ) → a + n ≤ 1440 → AreRisingFrom a (filter p (range_with_len a n))
range_rising p a zero le = tt
range_rising p a (suc n) le = step (p a) (range_rising p (a + 1) n (omega (arith, le)))
  where
    step : (b : Bool) → AreRisingFrom (a + 1) (filter p (range_with_len (a + 1) n)) → AreRisingFrom a (cond b (a ∷ filter p (range_with_len (a + 1) n)) (filter p (range_with_len (a + 1) n)))
    step true h = (omega arith, omega (arith, le), h)
    step false h = lower (a + 1) a (filter p (range_with_len (a + 1) n)) (omega arith) h

pub where_rising : (p : ℕ → Bool) → AreRising (minutes_where p)
unfolding minutes_where
where_rising p = range_rising p 0 1440 (omega arith)

-- one below the least is none of them
pub none_below : (least m : ℕ) (ms : List ℕ) → m < least → AreRisingFrom least ms → has ms m ≡ false
none_below least m [] lt h = refl
none_below least m (k ∷ ms) lt h = rw (ne_eqb k m (λ e. absurd (omega (arith, e, lt, h.0)))) (none_below (k + 1) m ms (omega (arith, lt, h.0)) h.2)

-- a fact of each of them is one of each minute of the day that is among them
pub each_from_all : (P : ℕ → Type 0) (ms : List ℕ) → All P ms → (m : ℕ) → has ms m ≡ true → P m
each_from_all P [] h m e = absurd (both_ways false refl e)
each_from_all P (k ∷ ms) h m e = step (nat_eq k m) refl (each_from_all P ms (All-tail P k ms h) m) e
  where
    step : (b : Bool) → nat_eq k m ≡ b → (has ms m ≡ true → P m) → (b || has ms m) ≡ true → P m
    step true q rest e = subst P (eqb-true k m q) (All-head P k ms h)
    step false q rest e = rest e

pub all_from_each : (P : ℕ → Type 0) (least : ℕ) (ms : List ℕ) → AreRisingFrom least ms → ((m : ℕ) → m < 1440 → has ms m ≡ true → P m) → All P ms
all_from_each P least [] r h = All-nil P
all_from_each P least (k ∷ ms) r h =
    All-cons P k ms (h k r.1 (rw (eq-eqb k k refl) refl)) (all_from_each P (k + 1) ms r.2 (λ m lt e. h m lt (later (nat_eq k m) (has ms m) e)))
  where
    later : (b c : Bool) → c ≡ true → (b || c) ≡ true
    later true c e = refl
    later false c e = e

pub first_is : (left rest : List ℕ) (k : ℕ) → left ≡ k ∷ rest → has left k ≡ true
first_is left rest k e = ap (λ (ms : List ℕ). has ms k) e ∙ rw (eq-eqb k k refl) refl
