-- The minutes that a clock rises to.
use Rattle.std.specs.Prelude.{ℕ, nat_lt, max, if◌then◌else◌}
use Rattle.cs_device.specs.declared.clock.Tick.{Tick}
use Rattle.cs_device.specs.declared.clock.Tick.TheVariants.{At, Stop, Failed}

-- 1 if the answer is a minute above all before
abbrev pub risen_by : ℕ → Tick → ℕ
risen_by top (At minute) = if nat_lt top minute then 1 else 0
risen_by top Stop = 0
risen_by top Failed = 0

abbrev pub top_by : ℕ → Tick → ℕ
top_by top (At minute) = max top minute
top_by top Stop = top
top_by top Failed = top
