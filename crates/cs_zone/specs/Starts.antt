-- When cron(8) starts a command by the clock of a zone, for jumps under three hours.
use Rattle.std.specs.Prelude.{ℕ, Bool, List, filter, length, nat_lt, not, ◌<◌, ◌≤◌, ◌+◌, ◌-◌, ◌/◌, ◌%◌, ◌==◌, ◌&&◌, ◌||◌, if◌then◌else◌}
use Rattle.std.specs.List.{range_with_len}
use Rattle.cs_civil.specs.Calendar.{Kind}
use Rattle.cs_schedule.specs.Times.{Times, is_due as is_listed}
use Rattle.cs_zone.specs.Zone.{Zone}
use Rattle.cs_zone.specs.Wall.{forward, is_second, kind_on, minute_on, wall}

-- the five fields list what the wall shows
abbrev pub is_shown : Times → Kind → ℕ → Bool
is_shown s k shown = is_listed s (kind_on k (shown / 1440)) (shown % 1440)

-- the minute or the hour field begins with `*`: such a line goes by the wall alone
abbrev pub is_by_wall : Times → Bool
is_by_wall s = s.minute.star || s.hour.star

-- the minutes that the wall's jump forward leaves out
abbrev pub jumped_over : Zone → Kind → List ℕ
jumped_over z k = range_with_len (wall z k (forward z k) - z.saving) z.saving

abbrev pub one_if : Bool → ℕ
one_if it = if it then 1 else 0

-- how often it starts for a minute that was jumped over: in the first one after the jump
unfoldable pub starts_late : Zone → Times → Kind → ℕ → ℕ
starts_late z s k t =
    if t == forward z k then length (filter (is_shown s k) (jumped_over z k)) else 0

-- How often cron starts it in a minute, counted from 1 March 00:00 on the plan's clock: a line by
-- the wall once where it is listed, and another line then too, but not in a minute that is shown
-- again, and once for each minute that was jumped over.
unfoldable pub starts : Zone → Times → Kind → ℕ → ℕ
starts z s k t =
    if is_by_wall s then one_if (is_shown s k (wall z k t))
    else one_if (is_shown s k (wall z k t) && not (is_second z k t)) + starts_late z s k t

-- the same, in a minute of a day of the plan's clock
abbrev pub starts_on : Zone → Times → Kind → ℕ → ℕ
starts_on z s k minute = starts z s k (minute_on k minute)

-- due in a minute of a day of this kind of the plan's clock
abbrev pub is_due : Zone → Times → Kind → ℕ → Bool
is_due z s k minute = nat_lt 0 (starts_on z s k minute)

-- In this minute the wall first shows it or, after a jump over it, a later one.
abbrev pub Comes : Zone → Kind → ℕ → ℕ → Type 0
Comes z k shown t = (shown ≤ wall z k t) × ((u : ℕ) → u < t → wall z k u < shown)
