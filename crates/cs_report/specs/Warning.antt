-- The warnings that come with two tables, and the notes that come with a plan.
use Rattle.std.specs.Prelude.{ℕ, ◌==◌, Bool, false, not, ◌&&◌, ◌||◌, List, [], ◌∷◌, ◌++◌, Option, Some, None, codes}
use Rattle.std.specs.Prelude.{if◌then◌else◌, length, nat_le, nat_lt, sum_by}
use Rattle.std.specs.Fmt.{decimal}
use Rattle.std.specs.List.{count_by, filter, find, flat_map, list_all, list_any}
use Rattle.std.specs.Str.{bytes_eq}
use Rattle.cs_anacrontab.specs.Anacrontab.{Table as JobTable}
use Rattle.cs_crontab.specs.Crontab.{CommandLine, Table}
use Rattle.cs_plan.specs.Job.{DeclaredJob}
use Rattle.cs_plan.specs.Plan.{Declared, as_plan}
use Rattle.cs_plan.specs.declared.clocks.ClockNames.{ClockNames}
use Rattle.cs_history.specs.Plan.{exclusive_group, is_group, is_skip}
use Rattle.cs_report.specs.User.{is_behind_user}
use Rattle.cs_table.specs.Setting.{SettingLine}
use Rattle.cs_table.specs.Text.{front, is_digit, is_solid}

-- Other daemons heed these settings of a crontab or an anacrontab.
abbrev pub is_unheeded : SettingLine → Bool
is_unheeded setting = bytes_eq setting.name (codes "CRON_TZ")
    || (bytes_eq setting.name (codes "RANDOM_DELAY")
    || bytes_eq setting.name (codes "START_HOURS_RANGE"))

abbrev pub warning : List ℕ → SettingLine → List ℕ
warning table setting =
    codes "warning: "
    ++ (setting.name
    ++ (codes " on line "
    ++ (decimal setting.number ++ (codes " of the " ++ (table ++ codes " has no effect\n")))))

-- the warnings of those settings, in their order
unfoldable pub warnings_of : List ℕ → List SettingLine → List ℕ
warnings_of table settings = flat_map (warning table) (filter is_unheeded settings)

abbrev pub user_warning : CommandLine → List ℕ
user_warning line = codes "warning: the command on line "
    ++ (decimal line.number
    ++ (codes " of the crontab begins with "
    ++ (front is_solid line.command ++ codes ", as in a table with a user column: see cronsafe gather\n")))

-- the warning of a command that seems to follow a user, if there is one: in tables with a user
-- column, as /etc/crontab and those of /etc/cron.d, a user stands before each command (crontab(5))
abbrev pub user_warning_of : Option CommandLine → List ℕ
user_warning_of None = []
user_warning_of (Some line) = user_warning line

-- the first word is a number, as the delay of a job of an anacrontab is (anacrontab(5))
abbrev pub begins_with_number : CommandLine → Bool
begins_with_number line =
    not (length (front is_solid line.command) == 0) && list_all is_digit (front is_solid line.command)

abbrev pub number_warning : CommandLine → List ℕ
number_warning line = codes "warning: the command on line "
    ++ (decimal line.number
    ++ (codes " of the crontab begins with "
    ++ (front is_solid line.command ++ codes ", as in an anacrontab: see --anacrontab\n")))

abbrev pub number_warning_of : Option CommandLine → List ℕ
number_warning_of None = []
number_warning_of (Some line) = number_warning line

-- the warnings of the crontab's settings, that of the first command that seems to follow a user,
-- that of the first that begins with a number, and then those of the anacrontab's settings
abbrev pub warnings : Table → JobTable → List ℕ
warnings crontab anacrontab = warnings_of (codes "crontab") crontab.settings
    ++ (user_warning_of (find (is_behind_user crontab.lines) crontab.lines)
    ++ (number_warning_of (find begins_with_number crontab.lines)
    ++ warnings_of (codes "anacrontab") anacrontab.settings))

unfoldable pub left_out_note : ℕ → List ℕ
left_out_note number =
    codes "note: line " ++ (decimal number ++ codes " is left out of the plan\n")

-- only where lines are left out and no job remains
abbrev pub no_job_note : List ℕ → ℕ → List ℕ
no_job_note [] jobs = []
no_job_note (number ∷ left_out) jobs =
    if jobs == 0 then codes "note: the plan has no job\n" else []

abbrev pub default_note : ℕ → List ℕ
default_note jobs =
    if jobs == 0 then [] else (
    if jobs == 1 then codes "note: 1 job without an entry has the default\n"
    else codes "note: " ++ (decimal jobs ++ codes " jobs without an entry have the default\n"))

abbrev pub guess_note : ℕ → List ℕ
guess_note jobs =
    if jobs == 0 then [] else (
    if jobs == 1 then codes "note: 1 longest time is a draft's guess\n"
    else codes "note: " ++ (decimal jobs ++ codes " longest times are a draft's guess\n"))

-- the group is exclusive, and two jobs belong to it
abbrev pub is_contended : Declared → Option ℕ → Bool
is_contended d None = false
is_contended d (Some g) = exclusive_group (as_plan d) (Some g)
    && nat_lt 1 (count_by (λ job. is_group g job.group) d.jobs)

-- the job may meet another one of its exclusive group, or be skipped against its promise
abbrev pub is_at_stake : Declared → DeclaredJob → Bool
is_at_stake d job = is_contended d job.group || is_skip job.mode

-- no exclusive group has two jobs, no job has mode skip, and all jobs together weigh no more than
-- the capacity
unfoldable pub decides_nothing : Declared → Bool
decides_nothing d = not (list_any (is_at_stake d) d.jobs)
    && nat_le (sum_by (λ job. job.weight) d.jobs) d.capacity

unfoldable pub nothing_text : List ℕ
nothing_text =
    codes "note: no two jobs can conflict, unless one still runs when it starts again: no exclusive"
    ++ codes " group has two jobs, no job has mode skip, and all together fit into the capacity\n"

-- of a plan of which `safe` says hardly anything
abbrev pub nothing_note : Declared → List ℕ
nothing_note d = if decides_nothing d then nothing_text else []

abbrev pub doubled_warning : Option (List ℕ) → List ℕ
doubled_warning None = []
doubled_warning (Some name) = codes "warning: an object of the declarations has "
    ++ (name ++ codes " twice, and the last one counts\n")

abbrev pub untimed_warning : Option ℕ → List ℕ
untimed_warning None = []
untimed_warning (Some number) = codes "warning: another line has the command of line "
    ++ (decimal number ++ codes ": add \"when\" to its entry, as cronsafe draft does\n")

abbrev pub clocks_text : List ℕ → List ℕ → List ℕ
clocks_text plan other = codes "note: times are by "
    ++ (plan ++ (codes " all year; those in brackets are by " ++ (other ++ codes "\n")))

-- of a plan whose zone has summer time
abbrev pub zone_note : Option ClockNames → ℕ → List ℕ
zone_note None saving = []
zone_note (Some names) saving = if saving == 0 then [] else clocks_text names.plan names.other

-- the notes in their order: a member that stands twice, a line that shares its command, the lines
-- that the plan leaves out, that it has no job, how many jobs have the default, how many longest
-- times are guesses, that hardly anything is decided, and by which clock times are
abbrev pub plan_notes : Declared → List ℕ
plan_notes d = doubled_warning d.doubled
    ++ (untimed_warning d.untimed
    ++ (flat_map left_out_note d.left_out
    ++ (no_job_note d.left_out (length d.jobs)
    ++ (default_note d.defaulted
    ++ (guess_note d.guessed ++ (nothing_note d ++ zone_note d.clocks d.zone.saving))))))
