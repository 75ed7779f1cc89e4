-- Why a daemon ends.
use Rattle.std.specs.Prelude.{◌≡◌, ◌⊎◌, ◌<◌, ◌==◌, ℕ, Option, Some, Result, Ok, Err, if◌then◌else◌}
use Rattle.cs_civil.specs.Calendar.{last_minute}
use Rattle.cs_device.specs.declared.clock.Tick.{Tick}
use Rattle.cs_device.specs.declared.clock.Tick.TheVariants.{At}
use Rattle.cs_history.specs.Plan.{first_start}
use Rattle.cs_keep.specs.declared.tick.TickFault.{TickFault}
use Rattle.cs_keep.specs.declared.tick.TickFault.TheVariants as fault
use Rattle.cs_daemon.specs.declared.end.Cause.{Cause}
use Rattle.cs_daemon.specs.declared.end.Cause.TheVariants.{Stopped, LastMinute, ClockBack}
use Rattle.cs_daemon.specs.declared.end.Cause.TheVariants.{ClockFailed, HistoryFull, NoMemory}

-- a cause for which a daemon ends without a first minute
abbrev pub IsBeforeFirst : Cause → Type 0
IsBeforeFirst c = (c ≡ Stopped) ⊎ ((c ≡ ClockBack) ⊎ (c ≡ ClockFailed))

abbrev pub cause_of : TickFault → Cause
cause_of fault.ClockBack = ClockBack
cause_of fault.HistoryFull = HistoryFull
cause_of fault.OutOfMemory = NoMemory

-- after a tick, the daemon ends for its fault, or if the minute is the last one
abbrev pub ended_by : Result (Unit {0}) TickFault → ℕ → Result (Unit {0}) Cause
ended_by (Ok v) minute = if minute == last_minute then Err LastMinute else Ok v
ended_by (Err f) minute = Err (cause_of f)

abbrev pub IsFromTick : Cause → Type 0
IsFromTick c = (c ≡ LastMinute) ⊎ ((c ≡ ClockBack) ⊎ ((c ≡ HistoryFull) ⊎ (c ≡ NoMemory)))

-- the clock's last answer was a minute before an earlier one, or before 1970-01-04 00:00
abbrev pub IsBack : ℕ → Option Tick → Type 0
IsBack top last = (m : ℕ) × (last ≡ Some (At m)) × ((m < top) ⊎ (m < first_start))
