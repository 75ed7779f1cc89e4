-- From two tables and declarations to a plan.
use Rattle.std.specs.Prelude.{ℕ, ℤ, ◌+◌, pos, unsigned_abs, List, [], ◌∷◌, ◌++◌, map, Option, None, Some, option_map, option_and_then, is_none, is_some, unwrap_or, Bool, false, not, ◌&&◌, ◌||◌, nat_lt, bytes_eq, Result, position}
use Rattle.std.specs.Ordering.{int_eq}
use Rattle.std.specs.List.{list_any, find, filter, count_by}
use Rattle.cs_crontab.specs.Crontab.{Table as Crontab, CommandLine}
use Rattle.cs_crontab.specs.declared.table.When.{When}
use Rattle.cs_anacrontab.specs.Anacrontab.{Table as Anacrontab, JobLine}
use Rattle.cs_history.specs.declared.mode.Mode.TheVariants.{Plain}
use Rattle.cs_zone.specs.Zone.{Zone, no_zone}
use Rattle.cs_rule.specs.Rule.{Clock}
use Rattle.cs_plan.specs.declared.fault.DeclFault.{DeclFault}
use Rattle.cs_plan.specs.declared.fault.DeclFault.TheVariants as faults
use Rattle.cs_plan.specs.declared.fault.Place.TheVariants.{Job}
use Rattle.cs_decl.specs.declared.entries.LineName.{LineName}
use Rattle.cs_decl.specs.declared.entries.GroupEntry.{GroupEntry}
use Rattle.cs_decl.specs.declared.entries.CronEntry.{CronEntry}
use Rattle.cs_decl.specs.declared.entries.AnacronEntry.{AnacronEntry}
use Rattle.cs_decl.specs.declared.entries.DefaultEntry.{DefaultEntry}
use Rattle.cs_decl.specs.declared.entries.Entries.{Entries}
use Rattle.cs_plan.specs.Job.{DeclaredJob}
use Rattle.cs_plan.specs.Plan.{Declared, DeclaredGroup}
use Rattle.cs_plan.specs.declared.clocks.ClockNames.{ClockNames}
use Rattle.cs_civil.specs.Hours.{CatchUpHours}
use Rattle.cs_decl.specs.Faults.{same_number, first_again, first_twice, at_cron, at_anacron, at_left_out, first_fault, clock_of}
use Rattle.cs_plan.specs.Answers.{Fault}
use Rattle.cs_plan.specs.Answers.{unless}
use Rattle.cs_decl.specs.When.{is_told_when}
use Rattle.cs_decl.specs.TwiceStarted.{twice_started}
use Rattle.cs_plan.specs.Reboot.{is_reboot, at_line, reboot_fault}

-- ---- names and lines

-- a number names the line that has it; a command alone each line that has that command and, if one
-- is given, that schedule
abbrev pub names_line : Option ℤ → Option (List ℕ) → Option When → CommandLine → Bool
names_line (Some number) told when line = int_eq number (pos line.number)
names_line None (Some told) when line = bytes_eq told line.command && is_told_when when line.when
names_line None None when line = false

abbrev pub is_named : LineName → CommandLine → Bool
is_named name line = names_line name.number name.command name.when line

abbrev pub has_no_line : List CommandLine → LineName → Bool
has_no_line lines name = not (list_any (is_named name) lines)

-- a command is given, and it isn't this one
abbrev pub is_unlike : List ℕ → Option (List ℕ) → Bool
is_unlike command None = false
is_unlike command (Some told) = not (bytes_eq told command)

-- its line has another command than it gives
abbrev pub has_other_command : List CommandLine → LineName → Bool
has_other_command lines name =
    list_any (λ line. is_named name line && is_unlike line.command name.command) lines

-- its line has another schedule than it gives
abbrev pub has_other_schedule : List CommandLine → LineName → Bool
has_other_schedule lines name =
    list_any (λ line. is_named name line && not (is_told_when name.when line.when)) lines

unfoldable pub is_ambiguous : List CommandLine → LineName → Bool
is_ambiguous lines name = nat_lt 1 (count_by (is_named name) lines)

-- the number of the first line that it names
abbrev pub number_of : List CommandLine → LineName → Option ℤ
number_of lines name = option_map (λ line. pos line.number) (find (is_named name) lines)

-- the numbers of the lines that entries name, in order of the entries
abbrev pub cron_numbers : List CommandLine → Entries → List (Option ℤ)
cron_numbers lines d = map (λ e. number_of lines e.name) d.cron

abbrev pub left_out_numbers : List CommandLine → Entries → List (Option ℤ)
left_out_numbers lines d = map (number_of lines) d.left_out

-- ---- lines that a plan leaves out, and jobs without an entry

abbrev pub is_left_out : Entries → CommandLine → Bool
is_left_out d line = list_any (λ name. is_named name line) d.left_out

abbrev pub has_entry : Entries → CommandLine → Bool
has_entry d line = list_any (λ e. is_named e.name line) d.cron

abbrev pub is_of_job : List ℕ → AnacronEntry → Bool
is_of_job identifier e = bytes_eq e.identifier identifier

abbrev pub has_job_entry : Entries → JobLine → Bool
has_job_entry d line = list_any (is_of_job line.identifier) d.anacron

-- no job has the entry's identifier
abbrev pub has_no_job : List JobLine → AnacronEntry → Bool
has_no_job lines e = not (list_any (λ line. is_of_job line.identifier e) lines)

abbrev pub rest : Entries → Crontab → Crontab
rest d table = record {
  settings = table.settings;
  lines = filter (λ line. not (is_left_out d line)) table.lines;
}

-- in order of line
abbrev pub lines_left_out : Entries → Crontab → List ℕ
lines_left_out d table = map (λ line. line.number) (filter (is_left_out d) table.lines)

-- without an entry or a default; an `@reboot` has a fault of its own
abbrev pub is_undeclared : Entries → CommandLine → Bool
is_undeclared d line = is_none d.default && (not (is_reboot line.when) && not (has_entry d line))

abbrev pub is_undeclared_job : Entries → JobLine → Bool
is_undeclared_job d line = is_none d.default && not (has_job_entry d line)

-- ---- the zone

-- the zone, seen from the plan's clock
abbrev pub zone_of : Entries → Zone
zone_of d = unwrap_or (option_map (λ c. c.zone) (clock_of d)) no_zone

-- the offset of the plan's clock: that of the zone, or else the declared one
abbrev pub offset_of : Entries → ℤ
offset_of d = unwrap_or (option_map (λ c. c.offset) (clock_of d)) d.offset

abbrev pub names_of_clocks : Clock → ClockNames
names_of_clocks c = record { plan = c.plan_name; other = c.other_name }

-- ---- the table of faults

abbrev pub at_job : DeclFault → Option JobLine → Option Fault
at_job fault line = option_map (λ l. (fault, Some (Job l.identifier))) line

-- entries that name no line or no job
unfoldable pub lineless : List CommandLine → List JobLine → Entries → List (Option Fault)
lineless lines jobs d =
    at_cron faults.NoSuchLine (position (λ e. has_no_line lines e.name) d.cron)
    ∷ at_anacron faults.NoSuchLine (position (has_no_job jobs) d.anacron)
    ∷ at_left_out faults.NoSuchLine (position (has_no_line lines) d.left_out)
    ∷ []

unfoldable pub misquoted : List CommandLine → Entries → List (Option Fault)
misquoted lines d =
    at_cron faults.OtherCommand (position (λ e. has_other_command lines e.name) d.cron)
    ∷ at_left_out faults.OtherCommand (position (has_other_command lines) d.left_out)
    ∷ []

unfoldable pub ambiguous : List CommandLine → Entries → List (Option Fault)
ambiguous lines d =
    at_cron faults.AmbiguousCommand (position (λ e. is_ambiguous lines e.name) d.cron)
    ∷ at_left_out faults.AmbiguousCommand (position (is_ambiguous lines) d.left_out)
    ∷ []

-- a second entry of `cron` for a line, or one of `left_out` for a line that has an entry already
unfoldable pub named_twice : List CommandLine → Entries → List (Option Fault)
named_twice lines d =
    at_cron faults.TwiceDeclared (first_twice same_number (cron_numbers lines d))
    ∷ at_left_out faults.TwiceDeclared
    (first_again same_number (cron_numbers lines d) 0 (left_out_numbers lines d))
    ∷ []

-- jobs without an entry or a default, and `@reboot` lines
unfoldable pub undeclared : List CommandLine → List JobLine → Entries → List (Option Fault)
undeclared lines jobs d =
    at_line faults.Undeclared (find (is_undeclared d) lines)
    ∷ at_job faults.Undeclared (find (is_undeclared_job d) jobs)
    ∷ reboot_fault lines
    ∷ []

unfoldable pub mistimed : List CommandLine → Entries → List (Option Fault)
mistimed lines d =
    at_cron faults.OtherSchedule (position (λ e. has_other_schedule lines e.name) d.cron)
    ∷ at_left_out faults.OtherSchedule (position (has_other_schedule lines) d.left_out)
    ∷ []

abbrev pub naming_faults : List CommandLine → List JobLine → Entries → List (Option Fault)
naming_faults lines jobs d =
    lineless lines jobs d ++ (misquoted lines d ++ (ambiguous lines d ++ named_twice lines d))

-- of lines that aren't left out, and of the schedules that entries give
abbrev pub later_faults : Crontab → Anacrontab → Entries → List (Option Fault)
later_faults crontab anacrontab d =
    undeclared (rest d crontab).lines anacrontab.lines d
    ++ (mistimed crontab.lines d ++ twice_started (zone_of d) (rest d crontab).lines)

-- entries name lines of the whole table; jobs are those of the lines that aren't left out
abbrev pub join_faults : Crontab → Anacrontab → Entries → List (Option Fault)
join_faults crontab anacrontab d =
    naming_faults crontab.lines anacrontab.lines d ++ later_faults crontab anacrontab d

-- ---- the plan

-- the place of the group with that name
abbrev pub group_place : List GroupEntry → Option (List ℕ) → Option ℕ
group_place groups name = option_and_then (λ n. position (λ g. bytes_eq n g.name) groups) name

-- a job without an entry has the default; where there is none, no plan has such a job
abbrev pub default_terms : ℕ → Option DefaultEntry → DeclaredJob
default_terms place None =
    record { place = place; max = 1; weight = 1; group = None; mode = Plain }
default_terms place (Some e) = record {
  place = place;
  max = unsigned_abs e.max;
  weight = unsigned_abs e.weight;
  group = None;
  mode = Plain;
}

abbrev pub cron_terms : Entries → ℕ → Option CronEntry → DeclaredJob
cron_terms d place None = default_terms place d.default
cron_terms d place (Some e) = record {
  place = place;
  max = unsigned_abs e.max;
  weight = unsigned_abs e.weight;
  group = group_place d.groups e.group;
  mode = e.mode;
}

abbrev pub anacron_terms : Entries → ℕ → Option AnacronEntry → DeclaredJob
anacron_terms d place None = default_terms place d.default
anacron_terms d place (Some e) = record {
  place = place;
  max = unsigned_abs e.max;
  weight = unsigned_abs e.weight;
  group = group_place d.groups e.group;
  mode = Plain;
}

-- the job of a line is what the first entry that names it declares
abbrev pub cron_job : Entries → ℕ → CommandLine → DeclaredJob
cron_job d place line = cron_terms d place (find (λ e. is_named e.name line) d.cron)

abbrev pub anacron_job : Entries → ℕ → JobLine → DeclaredJob
anacron_job d place line = anacron_terms d place (find (is_of_job line.identifier) d.anacron)

-- the jobs of lines, the first of which has this place
abbrev pub jobs_from : {L : Type 0} → (ℕ → L → DeclaredJob) → ℕ → List L → List DeclaredJob
jobs_from job place [] = []
jobs_from job place (line ∷ lines) = job place line ∷ jobs_from job (place + 1) lines

abbrev pub declared_group : GroupEntry → DeclaredGroup
declared_group g = record { name = g.name; exclusive = g.exclusive }

abbrev pub declared_hours : ℤ × ℤ → CatchUpHours
declared_hours h = record { from = unsigned_abs h.0; to = unsigned_abs h.1 }

abbrev pub defaulted : Entries → List CommandLine → List JobLine → ℕ
defaulted d lines jobs =
    count_by (λ line. not (has_entry d line)) lines
    + count_by (λ line. not (has_job_entry d line)) jobs

-- how many entries are a draft's guess
abbrev pub guessed : Entries → ℕ
guessed d = count_by (λ e. e.guess) d.cron + count_by (λ e. e.guess) d.anacron

-- it gives a command without a schedule
abbrev pub is_untimed_name : LineName → Bool
is_untimed_name name = is_some name.command && is_none name.when

-- its entry gives no schedule, and another line has the same command
abbrev pub is_untimed : Entries → List CommandLine → CommandLine → Bool
is_untimed d lines line =
    (list_any (λ e. is_named e.name line && is_untimed_name e.name) d.cron
    || list_any (λ name. is_named name line && is_untimed_name name) d.left_out)
    && nat_lt 1 (count_by (λ other. bytes_eq other.command line.command) lines)

abbrev pub untimed : Entries → List CommandLine → Option ℕ
untimed d lines = option_map (λ line. line.number) (find (is_untimed d lines) lines)

-- the plan of a crontab without the lines that are left out, whose numbers are given
unfoldable pub plan_of : Crontab → List ℕ → Option ℕ → Anacrontab → Entries → Declared
plan_of crontab left_out untimed anacrontab d = record {
  crontab = crontab;
  anacrontab = anacrontab;
  jobs = jobs_from (cron_job d) 0 crontab.lines ++ jobs_from (anacron_job d) 0 anacrontab.lines;
  groups = map declared_group d.groups;
  capacity = unsigned_abs d.capacity;
  hours = declared_hours d.hours;
  pass = option_map unsigned_abs d.pass;
  offset = offset_of d;
  zone = zone_of d;
  clocks = option_map names_of_clocks (clock_of d);
  left_out = left_out;
  defaulted = defaulted d crontab.lines anacrontab.lines;
  guessed = guessed d;
  untimed = untimed;
  doubled = d.doubled;
}

unfoldable pub joined : Crontab → Anacrontab → Entries → Result Declared Fault
joined crontab anacrontab d =
    unless (plan_of (rest d crontab) (lines_left_out d crontab) (untimed d crontab.lines) anacrontab
    d)
    (first_fault (join_faults crontab anacrontab d))
