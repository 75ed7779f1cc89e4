-- What `day --zone` prints: the starts of a date of the wall, which is what the zone's clock shows.
-- Minutes count from 1970-01-01 00:00, on the plan's clock or on the wall.
use Rattle.std.specs.Prelude.{ℕ, Bool, true, false, not, ◌+◌, ◌-◌, ◌*◌, ◌/◌, ◌%◌, ◌==◌, List, [], ◌∷◌, ◌++◌, flat_map, length, replicate, codes, if◌then◌else◌, nat_lt}
use Rattle.std.specs.List.{range_with_len}
use Rattle.cs_civil.specs.Calendar.{kind}
use Rattle.cs_schedule.specs.Times.{Times}
use Rattle.cs_zone.specs.Zone.{Jump, Zone}
use Rattle.cs_zone.specs.Wall.{jump_day, march_day, minute_on, wall}
use Rattle.cs_zone.specs.Starts.{starts_on}
use Rattle.cs_rule.specs.Rule.{Clock}
use Rattle.cs_show.specs.DayText.{clock, days_apart, due_text}

-- what the wall shows in a minute of the plan's clock
abbrev pub wall_at : Zone → ℕ → ℕ
wall_at z t =
    t + wall z (kind (t / 1440)) (minute_on (kind (t / 1440)) (t % 1440))
    - minute_on (kind (t / 1440)) (t % 1440)

-- the zone's name of its clock while that is away from the plan's clock, and while it isn't
abbrev pub name_of : Clock → Bool → List ℕ
name_of c away = if away then c.other_name else c.plan_name

-- its name in a minute of the plan's clock: it is away if it shows another one
abbrev pub name_at : Clock → ℕ → List ℕ
name_at c t = name_of c (not (wall_at c.zone t == t))

-- the starts in a minute in which the wall shows date n: the minute, as often as cron starts it
abbrev pub starts_in : Zone → Times → ℕ → ℕ → List ℕ
starts_in z times n t =
    if wall_at z t / 1440 == n then replicate (starts_on z times (kind (t / 1440)) (t % 1440)) t
    else []

-- the starts on date n of the wall, which is at most two hours from the plan's clock
unfoldable pub starts_of : Zone → Times → ℕ → List ℕ
starts_of z times n = flat_map (starts_in z times n) (range_with_len (1440 * n - 120) 1680)

-- ` the day after`: how far a day is from day n
unfoldable pub apart : ℕ → ℕ → List ℕ
apart n day =
    if nat_lt day n then days_apart (n - day) (codes "before") else days_apart (day - n) (codes "after")

-- `03:30 CEST`, `00:30 CEST the day after`: what the wall shows, seen from date n, with its name
unfoldable pub shown_text : ℕ → List ℕ → ℕ → List ℕ
shown_text n name shown = clock (shown % 1440) ++ (32 ∷ name ++ apart n (shown / 1440))

-- the same of the end of a run, `24:00 CEST` at the end of date n
unfoldable pub end_text : ℕ → List ℕ → ℕ → List ℕ
end_text n name shown =
    if shown == 1440 * n + 1440 then clock 1440 ++ 32 ∷ name else shown_text n name shown

-- `  03:00 CEST to 03:30 CEST`: a run that starts in minute t and lasts so long
unfoldable pub run_text : Clock → ℕ → ℕ → ℕ → List ℕ
run_text c n max t = codes "  "
    ++ (shown_text n (name_at c t) (wall_at c.zone t)
    ++ (codes " to "
    ++ (end_text n (name_at c (t + max)) (wall_at c.zone (t + max)) ++ 10 ∷ [])))

-- `line 1: due 2`, and a line for each start
unfoldable pub starts_text : Clock → ℕ → ℕ → ℕ → Times → List ℕ
starts_text c n max number times = due_text number (length (starts_of c.zone times n))
    ++ flat_map (run_text c n max) (starts_of c.zone times n)

-- the jump away from the plan's clock, and the jump back
abbrev pub jump_of : Zone → Bool → Jump
jump_of z away = if away then z.leaves else z.returns

abbrev pub is_forward : Zone → Bool → Bool
is_forward z away = if away then z.ahead else not z.ahead

-- what the wall shows after that jump on date n
abbrev pub shown_after : Zone → Bool → ℕ → ℕ
shown_after z away n =
    if is_forward z away then 1440 * n + (jump_of z away).minute + z.saving
    else 1440 * n + (jump_of z away).minute - z.saving

-- `02:00 CET becomes 03:00 CEST`
unfoldable pub jump_text : Clock → ℕ → Bool → List ℕ
jump_text c n away = clock (jump_of c.zone away).minute
    ++ (32 ∷ name_of c (not away)
    ++ (codes " becomes "
    ++ (shown_text n (name_of c away) (shown_after c.zone away n) ++ 10 ∷ [])))

-- the rule of a jump names date n
abbrev pub is_on : Jump → ℕ → Bool
is_on j n = jump_day j (kind n) == march_day (kind n)

-- a line for that jump on its date
unfoldable pub jump_line : Clock → ℕ → Bool → List ℕ
jump_line c n away = if is_on (jump_of c.zone away) n then jump_text c n away else []

-- the jumps on date n; without summer time there is none
unfoldable pub jumps_text : Clock → ℕ → List ℕ
jumps_text c n =
    if c.zone.saving == 0 then [] else jump_line c n true ++ jump_line c n false
