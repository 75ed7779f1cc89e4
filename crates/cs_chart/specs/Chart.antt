-- What a picture shows of the jobs of two tables, or of a plan.
use Rattle.std.specs.Prelude.{◌≡◌, ℕ, ◌+◌, ◌-◌, ◌*◌, ◌==◌, ◌^◌, min, List, [], ◌∷◌, ◌++◌, codes, decimal, flat_map, length, map, nat_lt, if◌then◌else◌, Option, None, Some, option_map}
use Rattle.cs_civil.specs.Calendar.{Kind}
use Rattle.cs_zone.specs.Starts.{is_due}
use Rattle.cs_zone.specs.Zone.{Zone, no_zone}
use Rattle.cs_crontab.specs.Crontab.{Table}
use Rattle.cs_crontab.specs.declared.table.When.{When}
use Rattle.cs_crontab.specs.declared.table.When.TheVariants.{At, Reboot}
use Rattle.cs_anacrontab.specs.Anacrontab.{Table as JobTable}
use Rattle.cs_history.specs.Lists.{below}
use Rattle.cs_plan.specs.Plan.{Declared, command_of, crons, job_at}
use Rattle.cs_windows.specs.Occupied.{job_of}
use Rattle.cs_windows.specs.Windows.{Job}
use Rattle.cs_chart.specs.declared.bar.Bar.{Bar}
use Rattle.cs_chart.specs.declared.row.Row.{Row}
use Rattle.cs_chart.specs.declared.row.Terms.{Terms}
use Rattle.cs_chart.specs.Bars.{AreBarsOf, Days, is_held}

-- windows begin where a command is due by the clock of the zone (cron(8))
abbrev pub windows_of : Zone → When → ℕ → Option (Job Kind)
windows_of zone (At times) max = Some (record { begins = is_due zone times; lasts = max })
windows_of zone Reboot max = None

-- from the first catch-up minute to the end of a run that starts in the last one
abbrev pub catch_up : Terms → ℕ
catch_up terms = min (terms.to - 1 - terms.from + terms.max) (2 ^ 16 - 1)

-- each day a window begins at the first catch-up minute (anacron(8))
abbrev pub windows_of_anacron : Terms → Option (Job Kind)
windows_of_anacron terms =
    Some (record { begins = λ day minute. minute == terms.from; lasts = catch_up terms })

-- the windows of the jobs of two tables, in order of line; none for `@reboot`
abbrev pub jobs_of_tables : Terms → Table → JobTable → List (Option (Job Kind))
jobs_of_tables terms table jobs = map (λ line. windows_of no_zone line.when terms.max) table.lines
    ++ map (λ job. windows_of_anacron terms) jobs.lines

-- the longest time of this job, and the catch-up hours
abbrev pub terms_at : Declared → ℕ → Terms
terms_at d j = record { max = (job_at d j).max; from = d.hours.from; to = d.hours.to }

-- the windows of the jobs of a plan, by number
abbrev pub jobs_of_plan : Declared → List (Option (Job Kind))
jobs_of_plan d =
    map (λ j. windows_of d.zone (command_of d j).when (job_at d j).max) (below (crons d))
    ++ map (λ j. windows_of_anacron (terms_at d (crons d + j)))
    (below (length d.anacrontab.lines))

abbrev pub shown_of : Row → Option (Job Kind)
shown_of row = option_map job_of row.occupied

-- `M60 9h30`, a line along the middle of a row, from minute 60 on and 30 minutes long
abbrev pub bar_text : Bar → List ℕ
bar_text bar =
    if nat_lt bar.from bar.to
    then 77 ∷ (decimal bar.from ++ (codes " 9h" ++ decimal (bar.to - bar.from)))
    else []

abbrev pub bars_text : List ℕ → List Bar → List ℕ
bars_text colour bars = codes "<path class=\"bars\" stroke=\"" ++ (colour
    ++ (codes "\" stroke-width=\"10\" d=\"" ++ (flat_map bar_text bars ++ codes "\"/>")))

-- The bars of each job are in the text, in this order, each in a colour such as `#E69F00`. They are
-- those of the job's windows; gaps of fewer minutes than two for each day may be closed. A job at
-- `@reboot` has none.
unfoldable pub IsPictureOf : Days → List (Option (Job Kind)) → List ℕ → Type 0
IsPictureOf days [] text = Unit {0}
IsPictureOf days (None ∷ jobs) text = IsPictureOf days jobs text
IsPictureOf days (Some job ∷ jobs) text = (bars : List Bar) × (colour before behind : List ℕ)
    × AreBarsOf (is_held days job) (2 * days.days) bars × (length colour ≡ 7)
    × (text ≡ before ++ (bars_text colour bars ++ behind)) × IsPictureOf days jobs behind
