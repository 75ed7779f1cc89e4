-- What the wall shows before, between and after the jumps.
use Rattle.std.proofs.Common.{[], ◌∷◌, length, filter, cond, not, ◌&&◌, ◌==◌, ◌/◌, sym, ◌≡◌, ℕ, ◌+◌, ◌-◌, ◌*◌, ◌%◌, ◌<◌, ◌≤◌, ◌≢◌, Bool, true, false, refl, ap, ◌∙◌, arith, inl, inr, nat_lt}
use Rattle.std.proofs.lemmas.Bool.Decides.{nat_tests, eqb_tells}
use Rattle.cs_zone.proofs.Counts.{count_found, count_some}
use Rattle.cs_civil.specs.Calendar.{Kind, IsKind, kinds_after}
use Rattle.cs_schedule.specs.Times.{Times, is_day_due, is_due as is_listed, is_time_due}
use Rattle.cs_zone.specs.Shape.{is_due_shifted, is_plain, is_shifted, is_turned, neighbour, turn}
use Rattle.cs_zone.specs.Starts.{Comes, is_by_wall, is_due, is_shown, jumped_over, one_if, starts, starts_late}
use Rattle.cs_zone.specs.Zone.{IsJump, IsZone, Jump, Zone}
use Rattle.cs_zone.specs.Wall.{back, forward, is_away, is_second, days_of_months, jump_day, kind_on, leaving, march_day, minute_on, month_on, returning, wall, weekday_on}

pub day_bounds : (j : Jump) (k : Kind) → (j.earliest ≤ jump_day j k) × (jump_day j k ≤ j.earliest + 6)
day_bounds j k = (omega arith, omega arith)

pub bounds : (z : Zone) (k : Kind) → IsZone z → (10080 ≤ leaving z k) × (leaving z k + 9960 ≤ returning z k)
bounds z k h = (omega (arith, h.after_march), spread z.ahead)
  where
    spread : (ahead : Bool) → leaving z k + 9960 ≤ returning (record z { ahead = ahead }) k
    spread true = omega (arith, h.saving, h.leaves.minute, h.apart)
    spread false = omega (arith, h.saving, h.leaves.minute, h.apart)

pub wall_early : (z : Zone) (k : Kind) (t : ℕ) → t < leaving z k → wall z k t ≡ t
wall_early z k t lt = grind (arith, nat_tests)

pub wall_late : (z : Zone) (k : Kind) (t : ℕ) → returning z k ≤ t → wall z k t ≡ t
wall_late z k t le = grind (arith, nat_tests)

pub wall_ahead : (z : Zone) (k : Kind) (t : ℕ) → z.ahead ≡ true → leaving z k ≤ t → t < returning z k → wall z k t ≡ t + z.saving
wall_ahead z k t e le lt = grind (arith, nat_tests)

pub wall_behind : (z : Zone) (k : Kind) (t : ℕ) → z.ahead ≡ false → leaving z k ≤ t → t < returning z k → wall z k t ≡ t - z.saving
wall_behind z k t e le lt = grind (arith, nat_tests)

-- before this minute the wall shows less than in it, unless it has shown that before
rises : (z : Zone) (k : Kind) → IsZone z → (t u : ℕ) → is_second z k t ≡ false → u < t → wall z k u < wall z k t
rises z k h t u first lt = grind (arith, nat_tests, wall_early, wall_late, wall_ahead, wall_behind, bounds z k h)

-- what it shows a second time it has shown a saving ago
again : (z : Zone) (k : Kind) → IsZone z → (t : ℕ) → is_second z k t ≡ true → (u : ℕ) × (u < t) × (wall z k t ≤ wall z k u)
again z k h t second = (back z k - 1, grind (arith, nat_tests, bounds z k h), grind (arith, nat_tests, wall_early, wall_late, wall_ahead, wall_behind, bounds z k h))

-- it goes on by one minute, but for the jumps
steps : (z : Zone) (k : Kind) → IsZone z → (t : ℕ) → t + 1 ≢ forward z k → wall z k (t + 1) ≤ wall z k t + 1
steps z k h t ne = grind (arith, nat_tests, wall_early, wall_late, wall_ahead, wall_behind, bounds z k h)

-- the jump forward leaves out a saving
leaps : (z : Zone) (k : Kind) → IsZone z → (u : ℕ) → u < forward z k → wall z k u < wall z k (forward z k) - z.saving
leaps z k h u lt = grind (arith, nat_tests, wall_early, wall_late, wall_ahead, wall_behind, bounds z k h)

-- ---- when a line starts whose minute and hour don't begin with `*`

starts_fixed : (z : Zone) (s : Times) (k : Kind) (t : ℕ) → is_by_wall s ≡ false → starts z s k t ≡ one_if (is_shown s k (wall z k t) && not (is_second z k t)) + starts_late z s k t
unfolding starts
starts_fixed z s k t fixed = rw fixed refl

now_starts : (z : Zone) (s : Times) (k : Kind) (t : ℕ) → is_by_wall s ≡ false → is_second z k t ≡ false → is_shown s k (wall z k t) ≡ true → 0 < starts z s k t
now_starts z s k t fixed first listed =
    let now : one_if (is_shown s k (wall z k t) && not (is_second z k t)) ≡ 1 = rw (listed, first) refl in
    omega (arith, starts_fixed z s k t fixed, now)

late_starts : (z : Zone) (s : Times) (k : Kind) (t : ℕ) → t ≡ forward z k → starts_late z s k t ≡ length (filter (is_shown s k) (jumped_over z k))
unfolding starts_late
late_starts z s k t e = elim (eqb_tells t (forward z k)) [
  | inl same ↦ rw same.0 refl
  | inr other ↦ absurd (other.1 e)
]

not_late : (z : Zone) (s : Times) (k : Kind) (t : ℕ) → t ≢ forward z k → starts_late z s k t ≡ 0
unfolding starts_late
not_late z s k t ne = elim (eqb_tells t (forward z k)) [
  | inl same ↦ absurd (ne same.1)
  | inr other ↦ rw other.0 refl
]

pub every : (z : Zone) (s : Times) (k : Kind) (t shown : ℕ) → IsZone z → is_by_wall s ≡ false → Comes z k shown t → is_shown s k shown ≡ true → 0 < starts z s k t
every z s k t shown h fixed comes listed = by (is_second z k t) refl
  where
    jumps : shown < wall z k t → t ≡ forward z k → 0 < starts z s k t
    jumps less e =
        let low : wall z k (forward z k) - z.saving ≤ shown = grind (arith, nat_tests, wall_early, wall_late, wall_ahead, wall_behind, bounds z k h, comes.1 (t - 1)) in
        let some = count_some (is_shown s k) (wall z k (forward z k) - z.saving) z.saving shown low (grind (arith, less, e)) listed in
        omega (arith, starts_fixed z s k t fixed, late_starts z s k t e, some)

    no_leap : shown < wall z k t → t ≢ forward z k → ⊥
    no_leap less ne = grind (arith, nat_tests, wall_early, wall_late, wall_ahead, wall_behind, bounds z k h, comes.1 (t - 1))

    below : shown < wall z k t → 0 < starts z s k t
    below less = elim (eqb_tells t (forward z k)) [
      | inl same ↦ jumps less same.1
      | inr other ↦ absurd (no_leap less other.1)
    ]

    by : (b : Bool) → is_second z k t ≡ b → 0 < starts z s k t
    by true e = let before = again z k h t e in absurd (omega (arith, comes.0, comes.1 before.0 before.1, before.2))
    by false e = elim (eqb_tells shown (wall z k t)) [
      | inl same ↦ now_starts z s k t fixed e (ap (is_shown s k) (sym same.1) ∙ listed)
      | inr other ↦ below (omega (arith, comes.0, other.1))
    ]

pub only : (z : Zone) (s : Times) (k : Kind) (t : ℕ) → IsZone z → is_by_wall s ≡ false → 0 < starts z s k t → (shown : ℕ) × Comes z k shown t × (is_shown s k shown ≡ true)
only z s k t h fixed some = by (is_shown s k (wall z k t)) refl (is_second z k t) refl
  where
    Found : Type 0
    Found = (shown : ℕ) × Comes z k shown t × (is_shown s k shown ≡ true)

    late : one_if (is_shown s k (wall z k t) && not (is_second z k t)) ≡ 0 → Found
    late none = elim (eqb_tells t (forward z k)) [
      | inl same ↦
          let more : 0 < length (filter (is_shown s k) (jumped_over z k)) = omega (arith, some, none, starts_fixed z s k t fixed, late_starts z s k t same.1) in
          let found = count_found (is_shown s k) (wall z k (forward z k) - z.saving) z.saving more in
          (found.0, (grind (arith, found.2, same.1, wall_early, wall_late, wall_ahead, wall_behind, nat_tests, bounds z k h), λ u lt. grind (arith, leaps z k h u, found.1, same.1)), found.3)
      | inr other ↦ absurd (omega (arith, some, none, starts_fixed z s k t fixed, not_late z s k t other.1))
    ]

    by : (a : Bool) → is_shown s k (wall z k t) ≡ a → (b : Bool) → is_second z k t ≡ b → Found
    by true listed false first = (wall z k t, (omega arith, λ u lt. rises z k h t u first lt), listed)
    by false e b f = late (rw e refl)
    by true e true f = late (rw (e, f) refl)

-- ---- the days around one

march_bound : (k : Kind) → IsKind k → march_day k ≤ 365
march_bound k h = grind (arith, h.month, h.dom)

pub on_weekday : (j : Jump) (k : Kind) → IsJump j → IsKind k → weekday_on k (jump_day j k) ≡ j.weekday
on_weekday j k h is = omega (arith, h.weekday, march_bound k is)

pub tomorrow : (k : Kind) → IsKind k → march_day k < 364 → kinds_after k ≡ kind_on k (march_day k + 1) ∷ []
tomorrow k h lt = grind (arith, h.month, h.dom, h.dow)

march_day_on : (k : Kind) (day : ℕ) → day ≤ 365 → march_day (kind_on k day) ≡ day
march_day_on k day le = grind arith

pub same_year : (k : Kind) (day other : ℕ) → IsKind k → day ≤ 365 → kind_on (kind_on k day) other ≡ kind_on k other
same_year k day other h le =
    let here = march_day_on k day le in
    let same : weekday_on (kind_on k day) other ≡ weekday_on k other = omega (arith, here, march_bound k h) in
    ap (λ (w : ℕ). let x : Kind = record { month = (month_on other + 2) % 12 + 1; dom = other - days_of_months (month_on other) + 1; dow = w } in x) same

-- the day itself
kind_on_self : (k : Kind) → IsKind k → kind_on k (march_day k) ≡ k
kind_on_self k h = grind (arith, h.month, h.dom, h.dow)

same_wall : (z : Zone) (k : Kind) (t : ℕ) → z.saving ≡ 0 → wall z k t ≡ t
same_wall z k t none = grind (arith, nat_tests)

never_again : (z : Zone) (k : Kind) (t : ℕ) → z.saving ≡ 0 → is_second z k t ≡ false
never_again z k t none = grind (arith, nat_tests)

never_late : (z : Zone) (s : Times) (k : Kind) (t : ℕ) → z.saving ≡ 0 → starts_late z s k t ≡ 0
unfolding starts_late
never_late z s k t none = by (t == forward z k)
  where
    by : (b : Bool) → cond b (length (filter (is_shown s k) (jumped_over z k))) 0 ≡ 0
    by true = rw none refl
    by false = refl

-- the fields list this minute of the day
on_day : (s : Times) (k : Kind) (minute : ℕ) → IsKind k → minute < 1440 → is_shown s k (minute_on k minute) ≡ is_listed s k minute
on_day s k minute h lt =
    let day : minute_on k minute / 1440 ≡ march_day k = omega arith in
    let rest : minute_on k minute % 1440 ≡ minute = omega arith in
    ap (λ (d : ℕ). is_listed s (kind_on k d) (minute_on k minute % 1440)) day
    ∙ ap (λ (m : ℕ). is_listed s (kind_on k (march_day k)) m) rest
    ∙ ap (λ (x : Kind). is_listed s x minute) (kind_on_self k h)

pub still : (z : Zone) (s : Times) (k : Kind) (minute : ℕ) → IsKind k → minute < 1440 → z.saving ≡ 0 → is_due z s k minute ≡ is_listed s k minute
unfolding starts
still z s k minute h lt none =
    let t = minute_on k minute in
    rw (same_wall z k t none, never_again z k t none, never_late z s k t none, on_day s k minute h lt) (by (is_by_wall s) (is_listed s k minute))
  where
    by : (fixed listed : Bool) → nat_lt 0 (cond fixed (one_if listed) (one_if (listed && not false) + 0)) ≡ listed
    by true true = refl
    by true false = refl
    by false true = refl
    by false false = refl

-- ---- minutes in which no time is listed that the wall may show

-- it shows the time of the plan's clock or of the shifted one
nearby : (z : Zone) (k : Kind) (minute : ℕ) (test : ℕ → Bool) → IsZone z → minute < 1440 → test minute ≡ false → test ((minute + turn z) % 1440) ≡ false → test (wall z k (minute_on k minute) % 1440) ≡ false
nearby z k minute test h lt here turned = by (is_away z k (minute_on k minute)) refl z.ahead refl
  where
    at : (m : ℕ) → test m ≡ false → wall z k (minute_on k minute) % 1440 ≡ m → test (wall z k (minute_on k minute) % 1440) ≡ false
    at m none same = ap test same ∙ none

    by : (away : Bool) → is_away z k (minute_on k minute) ≡ away → (ahead : Bool) → z.ahead ≡ ahead → test (wall z k (minute_on k minute) % 1440) ≡ false
    by false e _ _ = at minute here (rw e (omega arith))
    by true e true f = at ((minute + turn z) % 1440) turned (rw (e, f) (omega arith))
    by true e false f =
        let low : z.saving ≤ 1440 * march_day k = grind (arith, nat_tests, bounds z k h, h.saving, e) in
        at ((minute + turn z) % 1440) turned (rw (e, f) (omega (arith, low, h.saving)))

pub unlisted : (z : Zone) (s : Times) (k : Kind) (minute : ℕ) → IsZone z → minute < 1440 → is_time_due s minute ≡ false → is_time_due s ((minute + turn z) % 1440) ≡ false → minute_on k minute ≢ forward z k → is_due z s k minute ≡ false
unfolding starts
unlisted z s k minute h lt here turned before =
    let t = minute_on k minute in
    let no : is_time_due s (wall z k t % 1440) ≡ false = nearby z k minute (is_time_due s) h lt here turned in
    let dark : is_shown s k (wall z k t) ≡ false = ap (λ (b : Bool). b && is_day_due s (kind_on k (wall z k t / 1440))) no ∙ unless (is_day_due s (kind_on k (wall z k t / 1440))) in
    rw (dark, not_late z s k t before) (by (is_by_wall s) (is_second z k t))
  where
    unless : (day : Bool) → (false && day) ≡ false
    unless true = refl
    unless false = refl

    by : (fixed second : Bool) → nat_lt 0 (cond fixed (one_if false) (one_if (false && not second) + 0)) ≡ false
    by true true = refl
    by true false = refl
    by false true = refl
    by false false = refl

-- ---- days with no jump near

-- neither second nor late
calm : (z : Zone) (s : Times) (k : Kind) (t : ℕ) → is_second z k t ≡ false → starts_late z s k t ≡ 0 → nat_lt 0 (starts z s k t) ≡ is_shown s k (wall z k t)
unfolding starts
calm z s k t first none = rw (first, none) (by (is_by_wall s) (is_shown s k (wall z k t)))
  where
    by : (fixed listed : Bool) → nat_lt 0 (cond fixed (one_if listed) (one_if (listed && not false) + 0)) ≡ listed
    by true true = refl
    by true false = refl
    by false true = refl
    by false false = refl

none_late : (z : Zone) (s : Times) (k : Kind) (t : ℕ) → (t ≡ forward z k → z.saving ≡ 0) → starts_late z s k t ≡ 0
none_late z s k t h = elim (eqb_tells t (forward z k)) [
  | inl same ↦ never_late z s k t (h same.1)
  | inr other ↦ not_late z s k t other.1
]

pub plain_day : (z : Zone) (s : Times) (k : Kind) (minute : ℕ) → IsZone z → IsKind k → is_plain z k ≡ true → minute < 1440 → is_due z s k minute ≡ is_listed s k minute
plain_day z s k minute h is plain lt =
    let t = minute_on k minute in
    let first : is_second z k t ≡ false = grind (arith, nat_tests, bounds z k h, plain) in
    let on : t ≡ forward z k → z.saving ≡ 0 = λ e. grind (arith, nat_tests, bounds z k h, plain, e) in
    let same : wall z k t ≡ t = grind (arith, nat_tests, wall_early, wall_late, bounds z k h, plain) in
    calm z s k t first (none_late z s k t on) ∙ (ap (is_shown s k) same ∙ on_day s k minute is lt)

shifted_wall : (z : Zone) (k : Kind) (minute : ℕ) → IsZone z → is_shifted z k ≡ true → minute < 1440 → (wall z k (minute_on k minute) % 1440 ≡ (minute + turn z) % 1440) × (wall z k (minute_on k minute) / 1440 ≡ cond (is_turned z minute) (cond z.ahead (march_day k + 1) (march_day k - 1)) (march_day k))
shifted_wall z k minute h shifted lt = (grind (arith, nat_tests, wall_ahead, wall_behind, bounds z k h, shifted, h.saving), grind (arith, nat_tests, wall_ahead, wall_behind, bounds z k h, shifted, h.saving))

swap : (a b : Bool) → (a && b) ≡ (b && a)
swap true true = refl
swap true false = refl
swap false true = refl
swap false false = refl

pub shifted_day : (z : Zone) (s : Times) (k : Kind) (minute : ℕ) → IsZone z → IsKind k → is_shifted z k ≡ true → minute < 1440 → is_due z s k minute ≡ is_due_shifted z s (is_day_due s k) (is_day_due s (neighbour z k)) minute
shifted_day z s k minute h is shifted lt =
    let t = minute_on k minute in
    let first : is_second z k t ≡ false = grind (arith, nat_tests, bounds z k h, shifted) in
    let on : t ≡ forward z k → z.saving ≡ 0 = λ e. grind (arith, nat_tests, bounds z k h, shifted, e) in
    let at = shifted_wall z k minute h shifted lt in
    calm z s k t first (none_late z s k t on)
    ∙ (ap (λ (m : ℕ). is_listed s (kind_on k (wall z k t / 1440)) m) at.0
    ∙ (ap (λ (d : ℕ). is_listed s (kind_on k d) ((minute + turn z) % 1440)) at.1
    ∙ by (is_turned z minute)))
  where
    by : (turned : Bool) → is_listed s (kind_on k (cond turned (cond z.ahead (march_day k + 1) (march_day k - 1)) (march_day k))) ((minute + turn z) % 1440) ≡ (cond turned (is_day_due s (neighbour z k)) (is_day_due s k) && is_time_due s ((minute + turn z) % 1440))
    by true = swap (is_time_due s ((minute + turn z) % 1440)) (is_day_due s (neighbour z k))
    by false = ap (λ (x : Kind). is_listed s x ((minute + turn z) % 1440)) (kind_on_self k is) ∙ swap (is_time_due s ((minute + turn z) % 1440)) (is_day_due s k)
