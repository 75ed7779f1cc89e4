-- The rule of a zone (POSIX, TZ) as a clock: the plan's clock shows all year what the zone shows on
-- 28 February, and in one part of the year the zone goes by another clock.
use Rattle.std.specs.Prelude.{◌≡◌, ℕ, ℤ, pos, Bool, List, MatchBool, MatchOption, nat_lt, ◌+◌, ◌-◌, ◌*◌, ◌%◌, ◌==◌, ◌+ℤ◌, ◌-ℤ◌, ◌*ℤ◌, if◌then◌else◌}
use Rattle.jiff_tz.specs.PosixText.{DstText, TzText}
use Rattle.jiff_tz.specs.declared.posix.Day.{Day}
use Rattle.jiff_tz.specs.declared.posix.Day.TheVariants.{JulianOne, JulianZero, WeekdayOfMonth}
use Rattle.cs_zone.specs.Wall.{days_of_months}
use Rattle.cs_zone.specs.Zone.{Jump, Zone, no_zone}

-- the minutes by which the plan's clock is ahead of UTC, the zone seen from it, the plan's clock's
-- name, and that of the other clock
pub record Clock : Type 0 where
  pub offset : ℤ
  pub zone : Zone
  pub plan_name : List ℕ
  pub other_name : List ℕ

-- a clock of the zone: its name, and the seconds by which it is ahead of UTC
pub record Side : Type 0 where
  pub name : List ℕ
  pub seconds : ℤ

abbrev pub standard : TzText → Side
standard r = record { name = r.std_name; seconds = r.std_seconds }

abbrev pub summer : DstText → Side
summer d = record { name = d.name; seconds = d.seconds }

-- how many months after March it comes
abbrev pub after_march : ℕ → ℕ
after_march month = (month + 9) % 12

-- the earliest day in a week of a month, counted from 1 March; week 5 is the last seven days
abbrev pub earliest : ℕ → ℕ → ℕ
earliest month week =
    if week == 5 then days_of_months (after_march month + 1) - 7
    else days_of_months (after_march month) + 7 * (week - 1)

-- `Mm.w.d` is the day of this jump; `Jn` and `n` are the day of none
abbrev pub IsOnDay : Day → Jump → Type 0
IsOnDay (WeekdayOfMonth month week weekday) j =
    (j.earliest ≡ earliest month week) × (j.weekday ≡ weekday)
IsOnDay (JulianOne day) j = ⊥
IsOnDay (JulianZero day) j = ⊥

-- a day and the seconds after its midnight are those of this jump
pub record IsJumpAt (at : Day × ℤ) (j : Jump) : Type 0 where
  pub day : IsOnDay at.0 j
  pub time : at.1 ≡ pos (60 * j.minute)

pub record HasJumps (leaves returns : Day × ℤ) (z : Zone) : Type 0 where
  pub leaves_at : IsJumpAt leaves z.leaves
  pub returns_at : IsJumpAt returns z.returns

-- the minutes by which the other clock is ahead of UTC
abbrev pub other_offset : Clock → ℤ
other_offset c =
    if c.zone.ahead then c.offset +ℤ pos c.zone.saving else c.offset -ℤ pos c.zone.saving

-- The plan's clock is one of these, and the zone's other clock is ahead of it or behind it by the
-- saving.
pub record HasClocks (plan other : Side) (c : Clock) : Type 0 where
  pub plan_name : c.plan_name ≡ plan.name
  pub other_name : c.other_name ≡ other.name
  pub offset : plan.seconds ≡ pos 60 *ℤ c.offset
  pub saving : other.seconds ≡ pos 60 *ℤ other_offset c

-- how many months after March the day `Mm.w.d` comes
abbrev pub month_of : Day → ℕ
month_of (WeekdayOfMonth month week weekday) = after_march month
month_of (JulianOne day) = 0
month_of (JulianZero day) = 0

-- daylight saving time is in force on 28 February: from 1 March on, it ends before it begins
abbrev pub is_summer_in_february : DstText → Bool
is_summer_in_february d = nat_lt (month_of d.finish.0) (month_of d.start.0)

-- the clock of a zone with daylight saving time
abbrev pub IsSummerClock : Side → DstText → Clock → Type 0
IsSummerClock std d c =
    MatchBool (is_summer_in_february d)
    (HasClocks (summer d) std c × HasJumps d.finish d.start c.zone)
    (HasClocks std (summer d) c × HasJumps d.start d.finish c.zone)

-- the clock of a zone without it: both clocks are the same
abbrev pub IsPlainClock : Side → Clock → Type 0
IsPlainClock std c = HasClocks std std c × (c.zone ≡ no_zone)

-- The rule says this.
abbrev pub IsClock : TzText → Clock → Type 0
IsClock r c =
    MatchOption r.dst (IsPlainClock (standard r) c) (λ d. IsSummerClock (standard r) d c)
