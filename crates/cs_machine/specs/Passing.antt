-- What a clock shows, by the machine's clock, a limit and an offset.
use Rattle.std.specs.Prelude.{◌≡◌, ◌↔◌, ◌≤◌, ℕ, ◌+◌, ◌-◌, ℤ, pos, negsuc, ◌+ℤ◌, ◌*ℤ◌, Bool, false, ◌||◌, ◌==◌, nat_le, nat_lt, if◌then◌else◌, Option, Some, None}
use Rattle.std.specs.Int.{int_div_euclid}
use Rattle.cs_civil.specs.Calendar.{first_minute, last_minute}
use Rattle.cs_device.specs.declared.clock.Tick.{Tick}
use Rattle.cs_device.specs.declared.clock.Tick.TheVariants.{At, Stop}
use Rattle.cs_machine.specs.declared.attendant.ClockBack.{ClockBack}

abbrev pub latest : Option ℕ → ℕ → ℕ
latest None minute = minute
latest (Some before) minute = if nat_le before minute then minute else before

abbrev pub is_behind : Option ℕ → ℕ → Bool
is_behind None shown = false
is_behind (Some before) shown = nat_lt shown before

-- there are minutes between the latest one and this one
abbrev pub skips : Option ℕ → ℕ → Bool
skips None minute = false
skips (Some before) minute = nat_lt (before + 1) minute

-- both minutes, and whether the latest one is at most an hour ahead
abbrev pub IsBackAt : Option ℕ → ℕ → ClockBack → Type 0
IsBackAt before shown back =
    (before ≡ Some back.latest) × (back.shown ≡ shown)
    × (back.is_waited_for ≡ nat_le (back.latest - shown) 60)

-- the latest minute, if the machine's clock was put back by at most an hour
abbrev pub held : Option ℕ → ℕ → ℕ
held None minute = minute
held (Some before) minute =
    if nat_le before minute then minute
    else if nat_le (before - minute) 60 then before else minute

-- with 0 at once; else once more minutes than the limit have passed since the first, of which none
-- have where the clock went back
abbrev pub is_over : Option ℕ → Option ℕ → ℕ → Bool
is_over (Some limit) (Some first) minute = limit == 0 || nat_lt limit (minute - first)
is_over (Some limit) None minute = false
is_over None first minute = false

abbrev pub shown : Option ℕ → Option ℕ → ℕ → Tick
shown limit first minute = if is_over limit first minute then Stop else At minute

-- minutes since 1970-01-01 00:00, if they are those of a civil minute
abbrev pub civil_minute : ℤ → Option ℕ
civil_minute (pos n) =
    if nat_le first_minute n then (if nat_le n last_minute then Some n else None) else None
civil_minute (negsuc n) = None

-- the minute of a clock with this offset, in a second since 1970-01-01 00:00 UTC
abbrev pub clock_minute : ℤ → ℕ → Option ℕ
clock_minute offset second = civil_minute (int_div_euclid (pos second +ℤ pos 60 *ℤ offset) (pos 60))

abbrev pub IsSameInstant : ℤ → ℕ → ℤ → ℕ → Type 0
IsSameInstant offset minute other_offset other =
    pos minute +ℤ other_offset ≡ pos other +ℤ offset

-- a minute of one offset as a clock of the other shows it, if that is a civil minute
abbrev pub IsMoved : ℤ → Option ℕ → ℤ → Option ℕ → Type 0
IsMoved offset None other_offset moved = moved ≡ None
IsMoved offset (Some minute) other_offset moved =
    (n : ℕ) → first_minute ≤ n → n ≤ last_minute
    → (moved ≡ Some n) ↔ IsSameInstant offset minute other_offset n
