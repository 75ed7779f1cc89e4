-- What each fault says of a rule.
use Rattle.std.specs.Prelude.{ℕ, ℤ, pos, Bool, true, false, not, Option, Some, None, unsigned_abs, int_lt, nat_le, nat_lt, ◌%◌, ◌==◌, ◌&&◌, ◌||◌, ◌-ℤ◌}
use Rattle.std.specs.Int.{abs_diff}
use Rattle.std.specs.Option.{option_map_or}
use Rattle.jiff_tz.specs.PosixText.{DstText, TzText}
use Rattle.jiff_tz.specs.declared.posix.Day.{Day}
use Rattle.jiff_tz.specs.declared.posix.Day.TheVariants.{JulianOne, JulianZero, WeekdayOfMonth}
use Rattle.cs_rule.specs.Rule.{month_of}
use Rattle.cs_rule.specs.declared.fault.RuleFault.{RuleFault}
use Rattle.cs_rule.specs.declared.fault.RuleFault.TheVariants.{NoRule, Seconds, Offset, DayForm, Time, March, Near, Saving}

-- these seconds aren't whole minutes
abbrev pub has_seconds : ℤ → Bool
has_seconds seconds = not (unsigned_abs seconds % 60 == 0)

-- more than 23:59 from UTC
abbrev pub is_far : ℤ → Bool
is_far seconds = nat_lt 86340 (unsigned_abs seconds)

-- `Jn` or `n`
abbrev pub is_numbered : Day → Bool
is_numbered (WeekdayOfMonth month week weekday) = false
is_numbered (JulianOne day) = true
is_numbered (JulianZero day) = true

-- before 00:00 or after 24:00
abbrev pub is_outside : ℤ → Bool
is_outside time = int_lt time (pos 0) || int_lt (pos 86400) time

-- `Mm.w.d` that can be 28 or 29 February or 1 March
abbrev pub is_by_march : Day → Bool
is_by_march (WeekdayOfMonth month week weekday) =
    (month == 2 && nat_le 4 week) || (month == 3 && week == 1)
is_by_march (JulianOne day) = false
is_by_march (JulianZero day) = false

-- months, counted from March as 0, that are the same or next to each other
abbrev pub is_near : ℕ → ℕ → Bool
is_near m n = nat_lt (abs_diff m n) 2 || nat_lt 10 (abs_diff m n)

-- so many seconds between two clocks: less than 15 minutes or more than 120
abbrev pub is_unfit : ℕ → Bool
is_unfit apart = nat_lt apart 900 || nat_lt 7200 apart

-- an offset in seconds has the fault
abbrev pub is_at_clock : RuleFault → ℤ → Bool
is_at_clock Seconds seconds = has_seconds seconds
is_at_clock Offset seconds = is_far seconds
is_at_clock _ seconds = false

-- a jump has it
abbrev pub is_at_jump : RuleFault → Day × ℤ → Bool
is_at_jump Seconds at = has_seconds at.1
is_at_jump DayForm at = is_numbered at.0
is_at_jump Time at = is_outside at.1
is_at_jump March at = is_by_march at.0
is_at_jump _ at = false

-- both offsets, or both jumps, have it together
abbrev pub is_between : RuleFault → ℤ → DstText → Bool
is_between Near std d = is_near (month_of d.start.0) (month_of d.finish.0)
is_between Saving std d = is_unfit (unsigned_abs (std -ℤ d.seconds))
is_between _ std d = false

-- daylight saving time beside this standard time has the fault
abbrev pub is_at_summer : RuleFault → ℤ → DstText → Bool
is_at_summer f std d =
    is_at_clock f d.seconds || is_at_jump f d.start || is_at_jump f d.finish || is_between f std d

-- the text isn't a rule
abbrev pub is_no_rule : RuleFault → Bool
is_no_rule NoRule = true
is_no_rule _ = false

-- what was read of a text, a rule or nothing, has the fault
abbrev pub is_fault : RuleFault → Option TzText → Bool
is_fault f None = is_no_rule f
is_fault f (Some r) =
    is_at_clock f r.std_seconds || option_map_or (is_at_summer f r.std_seconds) r.dst false
