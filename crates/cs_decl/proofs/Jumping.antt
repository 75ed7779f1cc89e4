-- Cron starts a line more than once only in the minute after a jump forward.
use Rattle.std.proofs.Common.{◌≡◌, ◌≢◌, ℕ, zero, suc, ◌+◌, ◌-◌, ◌<◌, ◌≤◌, List, [], ◌∷◌, ◌++◌, Bool, true, false, cond, not, ◌&&◌, ◌||◌, nat_lt, length, filter, refl, sym, ap, ◌∙◌, arith, inl, inr}
use Rattle.std.specs.List.{list_any, range_with_len}
use Rattle.std.proofs.lemmas.Bool.Decides.{eqb_tells}
use Rattle.cs_civil.specs.Calendar.{Kind}
use Rattle.cs_civil.specs.Order.{all_kinds}
use Rattle.cs_schedule.specs.Times.{Times}
use Rattle.cs_zone.specs.Starts.{is_by_wall, is_shown, jumped_over, one_if, starts, starts_late, starts_on}
use Rattle.cs_zone.specs.Wall.{forward, is_second, minute_on, wall}
use Rattle.cs_zone.specs.Zone.{Zone}
use Rattle.cs_decl.proofs.Texts.{any_push}
use Rattle.cs_decl.specs.declared.forward.Start.{Start}
use Rattle.cs_decl.specs.TwiceStarted.{AreAll, is_twice, is_twice_at, is_twice_on}

-- ---- at most once

-- it doesn't start for a minute that was jumped over
once : (z : Zone) (s : Times) (k : Kind) (t : ℕ) → starts_late z s k t ≡ 0 → nat_lt 1 (starts z s k t) ≡ false
unfolding starts
once z s k t none = rw none (by (is_by_wall s) (is_shown s k (wall z k t)) (is_second z k t))
  where
    by : (fixed listed second : Bool) → nat_lt 1 (cond fixed (one_if listed) (one_if (listed && not second) + 0)) ≡ false
    by true true second = refl
    by true false second = refl
    by false true true = refl
    by false true false = refl
    by false false second = refl

once_elsewhere : (z : Zone) (s : Times) (k : Kind) (t : ℕ) → t ≢ forward z k → nat_lt 1 (starts z s k t) ≡ false
unfolding starts_late
once_elsewhere z s k t ne = once z s k t (elim (eqb_tells t (forward z k)) [
  | inl same ↦ absurd (ne same.1)
  | inr other ↦ rw other.0 refl
])

none_over : (z : Zone) (s : Times) (k : Kind) → z.saving ≡ 0 → length (filter (is_shown s k) (jumped_over z k)) ≡ 0
none_over z s k none = ap (λ n. length (filter (is_shown s k) (range_with_len (wall z k (forward z k) - z.saving) n))) none

once_still : (z : Zone) (s : Times) (k : Kind) (t : ℕ) → z.saving ≡ 0 → nat_lt 1 (starts z s k t) ≡ false
unfolding starts_late
once_still z s k t none = once z s k t (elim (eqb_tells t (forward z k)) [
  | inl same ↦ rw same.0 (none_over z s k none)
  | inr other ↦ rw other.0 refl
])

-- ---- lists

none_any : {A : Type 0} (p : A → Bool) (xs : List A) → ((x : A) → p x ≡ false) → list_any p xs ≡ false
none_any p [] none = refl
none_any p (x ∷ xs) none = rw (none x, none_any p xs none) refl

none_in_range : (p : ℕ → Bool) (a n : ℕ) → ((i : ℕ) → a ≤ i → i < a + n → p i ≡ false) → list_any p (range_with_len a n) ≡ false
none_in_range p a zero none = refl
none_in_range p a (suc n) none = rw (none a (omega arith) (omega arith), none_in_range p (a + 1) n (λ i low high. none i (omega (arith, low)) (omega (arith, high)))) refl

or_false : (b : Bool) → (b || false) ≡ b
or_false true = refl
or_false false = refl

-- only one number of a range can pass
one_in_range : (p : ℕ → Bool) (a n m : ℕ) → a ≤ m → m < a + n → ((i : ℕ) → i ≢ m → p i ≡ false) → list_any p (range_with_len a n) ≡ p m
one_in_range p a zero m low high others = absurd (omega (arith, low, high))
one_in_range p a (suc n) m low high others = elim (eqb_tells a m) [
  | inl same ↦
      rw (none_in_range p (a + 1) n (λ i above _. others i (λ is. absurd (omega (arith, above, is, same.1))))) (or_false (p a)) ∙ ap p same.1
  | inr other ↦ rw (others a other.1) (one_in_range p (a + 1) n m (omega (arith, low, other.1)) (omega (arith, high)) others)
]

-- ---- days

on_day : (z : Zone) (s : Times) (k : Kind) (m : ℕ) → m < 1440 → minute_on k m ≡ forward z k → is_twice_on z s k ≡ nat_lt 1 (starts_on z s k m)
unfolding is_twice_on
on_day z s k m lt e = one_in_range (λ i. nat_lt 1 (starts_on z s k i)) 0 1440 m (omega arith) (omega arith) (λ i ne. once_elsewhere z s k (minute_on k i) (λ same. ne (omega (arith, e, same))))

off_day : (z : Zone) (s : Times) (k : Kind) → ((m : ℕ) → m < 1440 → minute_on k m ≢ forward z k) → is_twice_on z s k ≡ false
unfolding is_twice_on
off_day z s k none = none_in_range (λ i. nat_lt 1 (starts_on z s k i)) 0 1440 (λ i _ lt. once_elsewhere z s k (minute_on k i) (none i (omega (arith, lt))))

pub no_jump : (z : Zone) (s : Times) → z.saving ≡ 0 → is_twice z s ≡ false
unfolding is_twice is_twice_on
no_jump z s none = none_any (is_twice_on z s) all_kinds (λ k. none_any (λ m. nat_lt 1 (starts_on z s k m)) (range_with_len 0 1440) (λ m. once_still z s k (minute_on k m) none))

-- ---- collecting the minutes of all kinds

-- what starts more than once does so in one of these minutes, or on one of these days
abbrev pub AreSo : Zone → List Start → List Kind → Type 0
AreSo z some kinds = (s : Times) → (list_any (is_twice_at z s) some || list_any (is_twice_on z s) kinds) ≡ is_twice z s

pub none_yet : (z : Zone) → AreSo z [] all_kinds
unfolding is_twice
none_yet z s = refl

pub done : (z : Zone) (some : List Start) → AreSo z some [] → AreAll z some
done z some so s = sym (or_false (list_any (is_twice_at z s) some)) ∙ so s

regroup : (a b c : Bool) → ((a || b) || c) ≡ (a || (b || c))
regroup true b c = refl
regroup false b c = refl

pub one_more : (z : Zone) (some : List Start) (x : Start) (kinds : List Kind) → x.minute < 1440 → minute_on x.kind x.minute ≡ forward z x.kind → AreSo z some (x.kind ∷ kinds) → AreSo z (some ++ x ∷ []) kinds
one_more z some x kinds lt e so s = rw (any_push (is_twice_at z s) some x, ← on_day z s x.kind x.minute lt e, regroup (list_any (is_twice_at z s) some) (is_twice_on z s x.kind) (list_any (is_twice_on z s) kinds)) (so s)

pub not_there : (z : Zone) (some : List Start) (k : Kind) (kinds : List Kind) → ((m : ℕ) → m < 1440 → minute_on k m ≢ forward z k) → AreSo z some (k ∷ kinds) → AreSo z some kinds
not_there z some k kinds none so s = ap (λ b. list_any (is_twice_at z s) some || (b || list_any (is_twice_on z s) kinds)) (sym (off_day z s k none)) ∙ so s
