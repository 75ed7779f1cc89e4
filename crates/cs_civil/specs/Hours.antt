-- The catch-up hours: minutes of a day from one up to, and without, another.
use Rattle.std.specs.Prelude.{ℕ, ◌<◌, ◌≤◌}

pub record CatchUpHours : Type 0 where
  pub from : ℕ
  pub to : ℕ

-- some minutes of one day
abbrev pub ArePossible : CatchUpHours → Type 0
ArePossible hours = (hours.from < hours.to) × (hours.to ≤ 1440)
