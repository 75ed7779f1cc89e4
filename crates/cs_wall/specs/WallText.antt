-- What follows a date and time on the plan's clock: what the zone's clock shows then, the wall.
use Rattle.std.specs.Prelude.{ℕ, Bool, nat_le, not, ◌+◌, ◌-◌, ◌/◌, ◌%◌, ◌==◌, ◌&&◌, List, [], ◌++◌, codes, if◌then◌else◌}
use Rattle.cs_civil.specs.Calendar.{Kind, first_minute, kind, last_minute}
use Rattle.cs_civil.specs.Text.{minute_text}
use Rattle.cs_zone.specs.Wall.{minute_on, wall}
use Rattle.cs_zone.specs.Zone.{Zone}

-- the kind of the day of civil minute t, and the minutes from 1 March 00:00 to it
abbrev pub kind_at : ℕ → Kind
kind_at t = kind (t / 1_440)

abbrev pub march_minute : ℕ → ℕ
march_minute t = minute_on (kind_at t) (t % 1_440)

-- the minute that the wall shows at minute t of the plan's clock
unfoldable pub wall_at : Zone → ℕ → ℕ
wall_at z t = t + wall z (kind_at t) (march_minute t) - march_minute t

-- another one than the plan's clock shows, and one that has a date
abbrev pub is_other : ℕ → ℕ → Bool
is_other t shown =
    not (shown == t) && (nat_le first_minute shown && nat_le shown last_minute)

-- ` (2024-07-01 02:30 CEST)`, if the clock of this name shows this
abbrev pub bracket : List ℕ → List ℕ → List ℕ
bracket name shown = codes " (" ++ (shown ++ (codes " " ++ (name ++ codes ")")))

-- what follows minute t of the plan's clock: nothing where the wall shows it too
unfoldable pub wall_text : Zone → List ℕ → ℕ → List ℕ
wall_text z name t =
    if is_other t (wall_at z t) then bracket name (minute_text (wall_at z t)) else []
