-- Two minutes at which a command is due, and the days that can follow one another.
use Rattle.std.proofs.Common.{◌≡◌, ℕ, zero, suc, ◌+◌, ◌-◌, ◌/◌, ◌%◌, ◌<◌, ◌≤◌, Bool, true, false, ◌&&◌, ◌||◌, List, [], ◌∷◌, All, Contains, refl, sym, ap, subst, ◌∙◌, arith, inl, inr}
use Rattle.std.specs.List.{list_any, range_with_len}
use Rattle.std.proofs.lemmas.Bool.{and_parts, cases_lt}
use Rattle.std.proofs.lemmas.Bool.Decides.{eqb_tells}
use Rattle.std.proofs.lemmas.List.Elements.{All-filter, All-cons, All-head, All-nil, All-tail}
use Rattle.std.proofs.lemmas.List.Folds.{list_any_at}
use Rattle.cs_civil.specs.Calendar.{Kind, kind, kinds_after}
use Rattle.cs_civil.specs.Order.{all_kinds, place}
use Rattle.cs_civil.proofs.Following.{kind_followed, kind_possible}
use Rattle.cs_civil.proofs.Places.{at_place, count_kinds, place-lt}
use Rattle.cs_schedule.specs.Minutes.{minutes_where}
use Rattle.cs_schedule.specs.Numbers.{has}
use Rattle.cs_schedule.specs.Times.{Times, is_day_due, is_due, is_time_due}
use Rattle.cs_schedule.proofs.Ranges.{has-filter}
use Rattle.cs_schedule.specs.Gap.{AreApartFrom, AreDays, NoneFrom, can_be_after, can_follow, is_day_due_after, is_due_at, is_followed}

-- ---- days

any_of : (p : Kind → Bool) (ks : List Kind) (k : Kind) → Contains ks k → p k ≡ true → list_any p ks ≡ true
any_of p ks k (i, below, is) passes = list_any_at p ks i k below (ap p is ∙ passes)

pub due_after : (s : Times) (n d : ℕ) → is_day_due s (kind (d + n)) ≡ true → is_day_due_after s n (kind d) ≡ true
due_after s zero d due = let same : d + 0 ≡ d = omega arith in ap (λ x. is_day_due s (kind x)) (sym same) ∙ due
due_after s (suc n) d due =
    let same : (d + 1) + n ≡ d + suc n = omega arith in
    any_of (is_day_due_after s n) (kinds_after (kind d)) (kind (d + 1)) (kind_followed d) (due_after s n (d + 1) (ap (λ x. is_day_due s (kind x)) same ∙ due))

is_listed : (d : ℕ) → Contains all_kinds (kind d)
is_listed d =
    let below = place-lt (kind d) (kind_possible d) in
    (place (kind d), omega (arith, below, count_kinds), at_place (kind d) (kind d) (kind_possible d))

or_left : (a b : Bool) → a ≡ true → (a || b) ≡ true
or_left a b p = cc

or_right : (a b : Bool) → b ≡ true → (a || b) ≡ true
or_right true b p = refl
or_right false b p = p

and_true : (a b : Bool) → a ≡ true → b ≡ true → (a && b) ≡ true
and_true a b p q = cc

pub after_due : (s r : Times) (n d : ℕ) → is_day_due s (kind d) ≡ true → is_day_due r (kind (d + n)) ≡ true → can_be_after s r n ≡ true
unfolding can_be_after
after_due s r n d due later = any_of (λ day. is_day_due s day && is_day_due_after r n day) all_kinds (kind d) (is_listed d) (and_true _ _ due (due_after r n d later))

-- ---- minutes

any_has : (p : ℕ → Bool) (ms : List ℕ) (m : ℕ) → has ms m ≡ true → p m ≡ true → list_any p ms ≡ true
any_has p [] m h passes = absurd (cc)
any_has p (x ∷ ms) m h passes =
    elim (eqb_tells x m) [
      | inl same ↦ or_left _ _ (ap p same.1 ∙ passes)
      | inr other ↦ or_right _ _ (any_has p ms m (rw other.0 at h) passes)
    ]

range_below : (a k n : ℕ) → a + k ≤ n → All (λ m. m < n) (range_with_len a k)
range_below a zero n h = All-nil (λ m. m < n)
range_below a (suc k) n h = All-cons (λ m. m < n) a (range_with_len (a + 1) k) (omega arith) (range_below (a + 1) k n (omega arith))

pub in_day : (p : ℕ → Bool) → All (λ m. m < 1440) (minutes_where p)
unfolding minutes_where
in_day p = All-filter p (λ m. m < 1440) (range_with_len 0 1440) (range_below 0 1440 1440 (omega arith))

same_any : (p q : ℕ → Bool) (ms : List ℕ) → All (λ m. m < 1440) ms → ((m : ℕ) → m < 1440 → p m ≡ q m) → list_any p ms ≡ list_any q ms
same_any p q [] all same = refl
same_any p q (m ∷ ms) all same =
    let one = same m (All-head (λ k. k < 1440) m ms all) in
    let rest = same_any p q ms (All-tail (λ k. k < 1440) m ms all) same in
    rw (one, rest) refl

found : (p : ℕ → Bool) (m : ℕ) → m < 1440 → has (minutes_where p) m ≡ p m
unfolding minutes_where
found p m below = has-filter p 0 1440 m (omega arith) (omega arith)

-- a gap is found among the minutes and days that were computed exactly if a minute can follow so
pub met : (s r : Times) (most : ℕ) (times later : List ℕ) (days : List Bool) (gap : ℕ) → times ≡ minutes_where (is_time_due s) → later ≡ minutes_where (is_time_due r)
    → AreDays s r most days → gap ≤ most → list_any (is_followed later days gap) times ≡ can_follow s r gap
unfolding can_follow
met s r most times later days gap same other are few =
    rw (same, other) (same_any _ _ (minutes_where (is_time_due s)) (in_day (is_time_due s)) (λ m below. alike m below))
  where
    alike : (m : ℕ) → m < 1440 → is_followed (minutes_where (is_time_due r)) days gap m ≡ (can_be_after s r ((m + gap) / 1440) && is_time_due r ((m + gap) % 1440))
    alike m below =
        let day = are ((m + gap) / 1440) (omega arith) in
        let minute = found (is_time_due r) ((m + gap) % 1440) (omega arith) in
        rw (day, minute) refl

-- ---- due minutes

pub follows : (s r : Times) (t u g : ℕ) → is_due_at s t ≡ true → is_due_at r u ≡ true → t + g ≡ u → can_follow s r g ≡ true
unfolding can_follow
follows s r t u g due later is =
    let day : t / 1440 + (t % 1440 + g) / 1440 ≡ u / 1440 = omega arith in
    let minute : (t % 1440 + g) % 1440 ≡ u % 1440 = omega arith in
    by_parts (t / 1440) (t % 1440) ((t % 1440 + g) / 1440) ((t % 1440 + g) % 1440) (omega arith) due (subst (λ x. is_due r (kind x) ((t % 1440 + g) % 1440) ≡ true) (sym day) (subst (λ x. is_due r (kind (u / 1440)) x ≡ true) (sym minute) later)) refl refl
  where
    by_parts : (d m n k : ℕ) → m < 1440 → is_due s (kind d) m ≡ true → is_due r (kind (d + n)) k ≡ true → (m + g) / 1440 ≡ n → (m + g) % 1440 ≡ k
        → list_any (λ x. can_be_after s r ((x + g) / 1440) && is_time_due r ((x + g) % 1440)) (minutes_where (is_time_due s)) ≡ true
    by_parts d m n k below one other is_day is_minute =
        let first = and_parts (is_time_due s m) (is_day_due s (kind d)) one in
        let second = and_parts (is_time_due r k) (is_day_due r (kind (d + n))) other in
        any_has _ (minutes_where (is_time_due s)) m (found (is_time_due s) m below ∙ first.0)
        (and_true _ _ (ap (can_be_after s r) is_day ∙ after_due s r n d first.1 second.1) (ap (is_time_due r) is_minute ∙ second.0))

pub are_apart : (s r : Times) (least gap : ℕ) → NoneFrom s r least gap → AreApartFrom s r least gap
are_apart s r least gap none t u due later before =
    elim (cases_lt u (t + gap)) [
      | inl near ↦ absurd (let g = u - t in let no = none g (omega arith) (omega arith) in let yes = follows s r t u g due later (omega arith) in cc)
      | inr far ↦ far
    ]

pub one_fewer : (p : ℕ → Bool) (ms : List ℕ) (m : ℕ) (rest : List ℕ) (b : Bool) → ms ≡ m ∷ rest → p m ≡ false → list_any p ms ≡ b → list_any p rest ≡ b
one_fewer p ms m rest b same fails is =
    let split : list_any p ms ≡ (p m || list_any p rest) = ap (list_any p) same in
    let out : (p m || list_any p rest) ≡ list_any p rest = rw fails refl in
    sym (split ∙ out) ∙ is

pub one_more : (s r : Times) (least gap : ℕ) → NoneFrom s r least gap → can_follow s r gap ≡ false → NoneFrom s r least (gap + 1)
one_more s r least gap none fails g from below =
    elim (cases_lt g gap) [
      | inl less ↦ none g from less
      | inr more ↦ let same : gap ≡ g = omega arith in subst (λ x. can_follow s r x ≡ false) same fails
    ]
