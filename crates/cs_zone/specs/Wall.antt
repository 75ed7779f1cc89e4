-- What the zone's clock shows: the wall. Minutes count from 1 March 00:00 on the plan's clock, and
-- the days around it are those of one year.
use Rattle.std.specs.Prelude.{ℕ, Bool, nat_le, nat_lt, ◌+◌, ◌-◌, ◌*◌, ◌/◌, ◌%◌, ◌&&◌, if◌then◌else◌}
use Rattle.cs_civil.specs.Calendar.{Kind}
use Rattle.cs_zone.specs.Zone.{Jump, Zone}

-- the days from 1 March to the first day of the n-th month after March
abbrev pub days_of_months : ℕ → ℕ
days_of_months n = (153 * n + 2) / 5

-- the days from 1 March to this day
abbrev pub march_day : Kind → ℕ
march_day k = days_of_months ((k.month + 9) % 12) + k.dom - 1

-- the minutes from 1 March 00:00 to a minute of this day
abbrev pub minute_on : Kind → ℕ → ℕ
minute_on k minute = 1440 * march_day k + minute

-- the weekday of a day, counted from 1 March, where k is a day of the same year
abbrev pub weekday_on : Kind → ℕ → ℕ
weekday_on k day = (k.dow + 371 + day - march_day k) % 7

-- the month of a day, counted from 0 for March
abbrev pub month_on : ℕ → ℕ
month_on day = (5 * day + 2) / 153

-- the kind of a day, where k is a day of the same year
abbrev pub kind_on : Kind → ℕ → Kind
kind_on k day = record {
  month = (month_on day + 2) % 12 + 1;
  dom = day - days_of_months (month_on day) + 1;
  dow = weekday_on k day;
}

-- the day of a jump
abbrev pub jump_day : Jump → Kind → ℕ
jump_day j k = j.earliest + (j.weekday + 7 - weekday_on k j.earliest) % 7

-- the minute of a jump, on the clock before it
abbrev pub jump_minute : Jump → Kind → ℕ
jump_minute j k = 1440 * jump_day j k + j.minute

-- the first minute on the plan's clock in which the wall shows another one
abbrev pub leaving : Zone → Kind → ℕ
leaving z k = jump_minute z.leaves k

-- and the first in which it shows the same again
abbrev pub returning : Zone → Kind → ℕ
returning z k =
    if z.ahead then jump_minute z.returns k - z.saving else jump_minute z.returns k + z.saving

abbrev pub is_away : Zone → Kind → ℕ → Bool
is_away z k t = nat_le (leaving z k) t && nat_lt t (returning z k)

-- what the wall shows
abbrev pub wall : Zone → Kind → ℕ → ℕ
wall z k t =
    if is_away z k t then (if z.ahead then t + z.saving else t - z.saving) else t

-- the first minute after the jump forward, and the first after the jump back
abbrev pub forward : Zone → Kind → ℕ
forward z k = if z.ahead then leaving z k else returning z k

abbrev pub back : Zone → Kind → ℕ
back z k = if z.ahead then returning z k else leaving z k

-- the wall shows a minute that it has shown before
abbrev pub is_second : Zone → Kind → ℕ → Bool
is_second z k t = nat_le (back z k) t && nat_lt t (back z k + z.saving)
