-- What the parts of a rule show.
use Rattle.std.specs.Prelude.{◌≡◌, ℤ, false, Option}
use Rattle.jiff_tz.specs.Abbreviation.{abbreviation_text}
use Rattle.jiff_tz.specs.PosixText.{DstText, TzText}
use Rattle.jiff_tz.specs.declared.posix.Day.{Day}
use Rattle.jiff_tz.specs.declared.posix.Day.TheVariants.{WeekdayOfMonth}
use Rattle.cs_rule.specs.Faults.{has_seconds, is_by_march, is_far, is_outside}
use Rattle.cs_rule.specs.Rule.{Side}
use Rattle.cs_rule.specs.declared.parts.Named.{Named}
use Rattle.cs_rule.specs.declared.parts.East.{East}

abbrev pub side : East → Side
side e = record { name = abbreviation_text e.name; seconds = e.seconds }

abbrev pub at : Named → Day × ℤ
at n = (WeekdayOfMonth n.month n.week n.weekday, n.time)

-- daylight saving time with this clock and these jumps
abbrev pub dst_of : East → Named → Named → DstText
dst_of e start end = record {
  name = abbreviation_text e.name;
  seconds = e.seconds;
  start = at start;
  finish = at end;
}

-- the rule with this standard time
abbrev pub rule_of : East → Option DstText → TzText
rule_of e dst = record {
  std_name = abbreviation_text e.name;
  std_seconds = e.seconds;
  dst = dst;
}

-- whole minutes, not far from UTC
pub record IsWhole (seconds : ℤ) : Type 0 where
  pub whole : has_seconds seconds ≡ false
  pub near : is_far seconds ≡ false

-- a jump without fault
pub record IsSound (n : Named) : Type 0 where
  pub whole : has_seconds n.time ≡ false
  pub inside : is_outside n.time ≡ false
  pub march : is_by_march (WeekdayOfMonth n.month n.week n.weekday) ≡ false
