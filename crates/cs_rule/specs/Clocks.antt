-- The clock that a text means, by a formula, and which texts mean none.
use Rattle.std.specs.Prelude.{ℕ, ℤ, pos, Bool, List, [], ◌∷◌, Option, None, option_map, unsigned_abs, int_lt, int_div, ◌/◌, ◌-ℤ◌, if◌then◌else◌}
use Rattle.std.specs.List.{list_any}
use Rattle.std.specs.Option.{option_map_or}
use Rattle.jiff_tz.specs.PosixReader.{read_whole}
use Rattle.jiff_tz.specs.PosixText.{DstText, TzText}
use Rattle.jiff_tz.specs.declared.posix.Day.{Day}
use Rattle.jiff_tz.specs.declared.posix.Day.TheVariants.{JulianOne, JulianZero, WeekdayOfMonth}
use Rattle.cs_zone.specs.Zone.{Jump, no_zone}
use Rattle.cs_rule.specs.Faults.{is_fault}
use Rattle.cs_rule.specs.Rule.{Clock, Side, earliest, is_summer_in_february, standard, summer}
use Rattle.cs_rule.specs.declared.fault.RuleFault.{RuleFault}
use Rattle.cs_rule.specs.declared.fault.RuleFault.TheVariants.{NoRule, Seconds, Offset, DayForm, Time, March, Near, Saving}

unfoldable pub minutes_of : ℤ → ℤ
minutes_of seconds = int_div seconds (pos 60)

-- the jump on this day at a minute of it; rules with `Jn` and `n` have a fault
abbrev pub jump_on : Day → ℕ → Jump
jump_on (WeekdayOfMonth month week weekday) minute = record {
  earliest = earliest month week;
  weekday = weekday;
  minute = minute;
}
jump_on (JulianOne day) minute = record { earliest = 0; weekday = 0; minute = minute }
jump_on (JulianZero day) minute = record { earliest = 0; weekday = 0; minute = minute }

-- the jump on a day, so many seconds after its midnight
abbrev pub jump_of : Day × ℤ → Jump
jump_of at = jump_on at.0 (unsigned_abs at.1 / 60)

-- the clock whose plan's clock is one of these
abbrev pub clock_between : Side → Side → Day × ℤ → Day × ℤ → Clock
clock_between plan other leaves returns = record {
  offset = minutes_of plan.seconds;
  zone = record {
    ahead = int_lt (minutes_of plan.seconds) (minutes_of other.seconds);
    saving = unsigned_abs (minutes_of other.seconds -ℤ minutes_of plan.seconds);
    leaves = jump_of leaves;
    returns = jump_of returns;
  };
  plan_name = plan.name;
  other_name = other.name;
}

-- the clock of a zone with daylight saving time
abbrev pub summer_clock : Side → DstText → Clock
summer_clock std d =
    if is_summer_in_february d then clock_between (summer d) std d.finish d.start
    else clock_between std (summer d) d.start d.finish

-- the clock of a zone without it
abbrev pub plain_clock : Side → Clock
plain_clock std = record {
  offset = minutes_of std.seconds;
  zone = no_zone;
  plan_name = std.name;
  other_name = std.name;
}

-- the clock of a rule without fault
abbrev pub clock_of : TzText → Clock
clock_of r = option_map_or (summer_clock (standard r)) r.dst (plain_clock (standard r))

abbrev pub all_faults : List RuleFault
all_faults = NoRule ∷ Seconds ∷ Offset ∷ DayForm ∷ Time ∷ March ∷ Near ∷ Saving ∷ []

-- what was read of a text, a rule or nothing, has a fault
abbrev pub has_fault : Option TzText → Bool
has_fault r = list_any (λ f. is_fault f r) all_faults

-- the clock of a rule that has no fault
abbrev pub usable_clock : Option TzText → Option Clock
usable_clock r = if has_fault r then None else option_map clock_of r

-- the clock that a text means
unfoldable pub clock_in : List ℕ → Option Clock
clock_in text = usable_clock (read_whole text)
