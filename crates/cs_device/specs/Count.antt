-- How many failures of a device can be counted.
use Rattle.std.specs.Prelude.{ℕ, ◌^◌, ◌-◌}

abbrev pub most_failures : ℕ
most_failures = 2 ^ 64 - 1
