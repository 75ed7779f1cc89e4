-- A zone with summer time (POSIX, TZ), seen from a clock that shows all year what the zone shows on
-- 28 February: the plan's clock.
use Rattle.std.specs.Prelude.{ℕ, Bool, false, ◌+◌, ◌≤◌}

-- A jump of the zone's clock: each year on the first such weekday from a day on, at a minute of the
-- clock before the jump. Days count from 1 March, which is day 0; Sunday is weekday 0.
pub record Jump : Type 0 where
  pub earliest : ℕ
  pub weekday : ℕ
  pub minute : ℕ

-- In one part of each year the zone's clock is so many minutes ahead of the plan's clock or behind
-- it. The first jump begins this part, and the second ends it. Without summer time there are 0
-- minutes.
pub record Zone : Type 0 where
  pub ahead : Bool
  pub saving : ℕ
  pub leaves : Jump
  pub returns : Jump

pub record IsJump (j : Jump) : Type 0 where
  pub weekday : j.weekday ≤ 6
  pub minute : j.minute ≤ 1440

-- The saving is at most two hours. There is a week or more between 1 March and the first jump,
-- between the jumps, and between the second one and 28 February, which is day 364.
pub record IsZone (z : Zone) : Type 0 where
  pub saving : z.saving ≤ 120
  pub leaves : IsJump z.leaves
  pub returns : IsJump z.returns
  pub after_march : 7 ≤ z.leaves.earliest
  pub apart : z.leaves.earliest + 14 ≤ z.returns.earliest
  pub before_march : z.returns.earliest ≤ 351

-- without summer time
abbrev pub no_zone : Zone
no_zone = record {
  ahead = false;
  saving = 0;
  leaves = record { earliest = 7; weekday = 0; minute = 0 };
  returns = record { earliest = 200; weekday = 0; minute = 0 };
}
