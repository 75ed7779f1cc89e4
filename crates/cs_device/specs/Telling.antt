-- A clock's answers so far.
use Rattle.std.specs.Prelude.{ℕ, ◌+◌, nat_lt, if◌then◌else◌, Option, Some, None}
use Rattle.cs_device.specs.Count.{most_failures}
use Rattle.cs_device.specs.Rise.{risen_by, top_by}
use Rattle.cs_device.specs.declared.clock.Tick.{Tick}
use Rattle.cs_device.specs.declared.clock.Tick.TheVariants.{At, Stop, Failed}

-- the last answer, the failures, the greatest minute, and how many minutes were above all before
pub record Telling : Type 0 where
  pub last : Option Tick
  pub failures : ℕ
  pub top : ℕ
  pub risen : ℕ

abbrev pub nothing_told : Telling
nothing_told = record { last = None; failures = 0; top = 0; risen = 0 }

abbrev pub failed_by : Tick → ℕ
failed_by (At minute) = 0
failed_by Stop = 0
failed_by Failed = 1

-- one more answer
abbrev pub telling : Telling → Tick → Telling
telling t tick = record {
  last = Some tick;
  failures = t.failures + failed_by tick;
  top = top_by t.top tick;
  risen = t.risen + risen_by t.top tick;
}

-- a failure past the greatest count becomes the end
abbrev pub said : Telling → Tick → Tick
said t (At minute) = At minute
said t Stop = Stop
said t Failed = if nat_lt t.failures most_failures then Failed else Stop
