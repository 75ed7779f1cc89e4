-- How the due minutes of a day come from the fields.
use Rattle.std.specs.Prelude.{ℕ, Bool, true, false, nat_le, nat_lt, ◌+◌, ◌-◌, ◌%◌, ◌&&◌, ◌||◌, if◌then◌else◌}
use Rattle.cs_civil.specs.Calendar.{Kind}
use Rattle.cs_schedule.specs.Times.{Times, is_day_due, is_time_due}
use Rattle.cs_zone.specs.declared.shape.Shape.{Shape}
use Rattle.cs_zone.specs.declared.shape.Shape.TheVariants.{Never, Plain, Same, Other, Both, Jump}
use Rattle.cs_zone.specs.Zone.{Zone}
use Rattle.cs_zone.specs.Wall.{kind_on, leaving, march_day, minute_on, returning}

-- the wall shows the plan's clock all day, and no jump is near
abbrev pub is_plain : Zone → Kind → Bool
is_plain z k =
    nat_le (minute_on k 1440) (leaving z k) || nat_le (returning z k + z.saving) (minute_on k 0)

-- the wall shows another clock all day, and no jump is near
abbrev pub is_shifted : Zone → Kind → Bool
is_shifted z k =
    nat_le (leaving z k + z.saving) (minute_on k 0) && nat_le (minute_on k 1440) (returning z k)

-- by how many minutes of a day the wall is ahead on such a day
abbrev pub turn : Zone → ℕ
turn z = if z.ahead then z.saving else 1440 - z.saving

-- in this minute the wall shows the day before or after the plan's
abbrev pub is_turned : Zone → ℕ → Bool
is_turned z minute = if z.ahead then nat_le 1440 (minute + z.saving) else nat_lt minute z.saving

-- the day that it shows then
abbrev pub neighbour : Zone → Kind → Kind
neighbour z k = kind_on k (if z.ahead then march_day k + 1 else march_day k - 1)

-- due on a day on which the wall shows another clock: whether the days that it shows are listed
abbrev pub is_due_shifted : Zone → Times → Bool → Bool → ℕ → Bool
is_due_shifted z s same other minute =
    (if is_turned z minute then other else same) && is_time_due s ((minute + turn z) % 1440)

-- how the due minutes of a day come from the fields: of one on which the wall is shifted, by whether
-- the days that it shows are listed
abbrev pub shifted_shape : Bool → Bool → Shape
shifted_shape same other =
    if same then (if other then Both else Same) else (if other then Other else Never)

abbrev pub shape_of : Zone → Times → Kind → Shape
shape_of z s k =
    if is_plain z k then (if is_day_due s k then Plain else Never)
    else (if is_shifted z k
    then shifted_shape (is_day_due s k) (is_day_due s (neighbour z k)) else Jump)

-- the due minutes of the days of a shape; of those with a jump near it says nothing
abbrev pub is_due_in : Zone → Times → Shape → ℕ → Bool
is_due_in z s Never minute = false
is_due_in z s Plain minute = is_time_due s minute
is_due_in z s Same minute = is_due_shifted z s true false minute
is_due_in z s Other minute = is_due_shifted z s false true minute
is_due_in z s Both minute = is_due_shifted z s true true minute
is_due_in z s Jump minute = false
