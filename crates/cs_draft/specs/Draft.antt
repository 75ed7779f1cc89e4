-- A draft joins with the tables, and keeps what old declarations say.
use Rattle.std.specs.Prelude.{◌≡◌, ◌≢◌, ◌⊎◌, ◌++◌, ◌≤◌, ◌+◌, ◌-◌, ◌^◌, min, max as nat_max, ℕ, ℤ, pos, List, [], ◌∷◌, All, codes, count_by, decimal, filter, find, length, map, take, drop, Bool, true, false, not, ◌==◌, ◌&&◌, ◌||◌, nat_le, nat_lt, bytes_eq, if◌then◌else◌, Option, None, Some, is_none, is_some, option_and_then, option_map, unwrap_or, IfSome, IsSomeAnd, IsUtf8, Ok}
use Rattle.std.specs.Ordering.{int_eq}
use Rattle.std.specs.List.{list_all, list_any}
use Rattle.cs_civil.specs.declared.minute.TheConstants.{MINUTES_OF_DAY}
use Rattle.cs_table.specs.SettingReading.{◌>>=◌}
use Rattle.cs_table.specs.Text.{lines_of}
use Rattle.cs_crontab.specs.Crontab.{Table as Crontab, CommandLine}
use Rattle.cs_crontab.specs.declared.table.When.{When}
use Rattle.cs_crontab.specs.declared.table.When.TheVariants.{At, Reboot}
use Rattle.cs_anacrontab.specs.Anacrontab.{Table as Anacrontab, JobLine}
use Rattle.cs_schedule.specs.Gap.{AreApart, can_be_apart}
use Rattle.cs_place.specs.Places.{place_of}
use Rattle.cs_place.specs.declared.places.Place.{Place}
use Rattle.cs_history.specs.Plan.{waits_in}
use Rattle.cs_history.specs.declared.mode.Mode.{Mode}
use Rattle.cs_history.specs.declared.mode.Mode.TheVariants.{Plain}
use Rattle.cs_plan.specs.declared.limits.TheConstants.{MAX_CAPACITY, MAX_GROUPS, MAX_MINUTES}
use Rattle.cs_decl.specs.declared.entries.LineName.{LineName}
use Rattle.cs_decl.specs.declared.entries.PartEntry.{PartEntry}
use Rattle.cs_decl.specs.declared.entries.CronEntry.{CronEntry}
use Rattle.cs_decl.specs.declared.entries.DefaultEntry.{DefaultEntry}
use Rattle.cs_decl.specs.declared.entries.GroupEntry.{GroupEntry}
use Rattle.cs_decl.specs.declared.entries.AnacronEntry.{AnacronEntry}
use Rattle.cs_decl.specs.declared.entries.Entries.{Entries}
use Rattle.cs_decl.specs.Faults.{first_fault, minutes_of}
use Rattle.cs_decl.specs.Meaning.{declared_by}
use Rattle.cs_decl.specs.Join.{is_left_out, is_named, is_of_job, join_faults, zone_of}
use Rattle.cs_plan.specs.Reboot.{is_reboot}
use Rattle.cs_decl.specs.Lines.{names_of}
use Rattle.cs_decl.specs.When.{is_told_when, same_when}
use Rattle.cs_decl.specs.TwiceStarted.{starts_twice}
use Rattle.cs_command.specs.Words.{names_lock}
use Rattle.cs_command.specs.Locks.{lock_of, is_below}
use Rattle.cs_command.specs.Timeouts.{asked_for, program_of, time_limit}
use Rattle.cs_retrace.specs.Maxes.{max_of}
use Rattle.cs_retrace.specs.Words.{if_so}
use Rattle.cs_retrace.specs.declared.maxes.Given.{Given}
use Rattle.cs_retrace.specs.declared.maxes.JobName.TheVariants.{Identifier, Line as OfLine}

-- the same command; if timed, the same schedule as well
abbrev pub are_like : Bool → CommandLine → CommandLine → Bool
are_like timed line other = bytes_eq other.command line.command
    && (not timed || same_when line.when other.when)

-- An entry that names the line gives its command, where that is UTF-8, and its schedule, where
-- another line has that command.
abbrev pub TellsLine : List CommandLine → LineName → CommandLine → Type 0
TellsLine lines name line = is_named name line ≡ true
    → (IsUtf8 line.command → name.command ≡ Some line.command)
    × (nat_lt 1 (count_by (are_like false line) lines) ≡ true → is_some name.when ≡ true)

abbrev pub IsBound : List CommandLine → LineName → Type 0
IsBound lines name = All (TellsLine lines name) lines

-- The bytes are declarations without a fault or a doubled member, which join with the tables; their
-- entries are bound to the commands of their lines.
pub record IsSound (crontab : Crontab) (anacrontab : Anacrontab) (bytes : List ℕ) (d : Entries)
    : Type 0 where
  pub declared : declared_by bytes ≡ Ok d
  pub once : d.doubled ≡ None
  pub fits : first_fault (join_faults crontab anacrontab d) ≡ None
  pub bound : All (λ e. IsBound crontab.lines e.name) d.cron
  pub left_out : All (IsBound crontab.lines) d.left_out

-- ---- parts

-- all of the names; none if one stands twice, or if they are more than the minutes that a job may
-- have
abbrev pub declarable : List (List ℕ) → List (List ℕ)
declarable names = if nat_le (length names) MAX_MINUTES
    && list_all (λ name. count_by (λ other. bytes_eq other name) names == 1) names
    then names else []

-- the parts at the line's place in a gathered table
abbrev pub parts_of : List Place → CommandLine → List (List ℕ)
parts_of places line =
    declarable (unwrap_or (option_map (λ place. place.parts) (place_of places line.number)) [])

abbrev pub HasParts : List (List ℕ) → CronEntry → Type 0
HasParts names e = (map (λ p. p.name) e.parts ≡ names) × (e.max ≡ pos (minutes_of e.parts))

abbrev pub is_part : List ℕ → PartEntry → Bool
is_part name p = bytes_eq p.name name

abbrev pub all_are_parts : List (List ℕ) → List PartEntry → Bool
all_are_parts names parts = list_all (λ name. list_any (is_part name) parts) names

-- ---- times that are given

abbrev pub greater : Option ℕ → ℕ → ℕ
greater None max = max
greater (Some limit) max = nat_max limit max

-- A run that waits for a lock may begin inside a minute, and gets one minute more, up to 64 bits.
-- No time is less than timeout(1) allows the command.
abbrev pub time_for : List ℕ → Mode → ℕ → ℕ
time_for command mode max =
    greater (time_limit command) (min (max + (if waits_in mode then 1 else 0)) (2 ^ 64 - 1))

-- the given time of a command that is declared as a whole, if a job may have that much
abbrev pub time_of : List Given → CommandLine → Bool → Mode → Option ℕ
time_of given line whole mode = if whole then option_and_then
    (λ max. if_so (nat_le (time_for line.command mode max) MAX_MINUTES)
    (time_for line.command mode max)) (max_of given (OfLine line.number)) else None

-- The entry has the given time, which is no guess, and no parts. Where none is given, Has holds.
abbrev pub HasTimes : Option ℕ → (CronEntry → Type 0) → CronEntry → Type 0
HasTimes None Has e = Has e
HasTimes (Some max) Has e = (e.max ≡ pos max) × (e.parts ≡ []) × (e.guess ≡ false)

-- a given time is that of the line's entry, new or kept
abbrev pub HasGiven : List Given → CommandLine → CronEntry → Type 0
HasGiven given line e = IfSome (time_of given line (length e.parts == 0) e.mode)
    (λ max. (e.max ≡ pos max) × (e.guess ≡ false))

-- ---- what is new

-- The longest time of a command without parts is the asked one, or the least time from a due minute
-- to the next if that is less. With parts it is their sum.
abbrev pub IsTimed : ℕ → When → List (List ℕ) → CronEntry → Type 0
IsTimed asked Reboot names e = Unit {0}
IsTimed asked (At schedule) [] e = (brief : ℕ) × (e.max ≡ pos brief) × (e.parts ≡ [])
    × (brief ≤ asked) × AreApart schedule brief
    × ((brief ≡ asked) ⊎ (can_be_apart schedule brief ≡ true))
IsTimed asked (At schedule) (name ∷ names) e = HasParts (name ∷ names) e

-- a longest time is a guess, unless the command's timeout(1) sets it
abbrev pub is_guess : List ℕ → ℤ → Bool
is_guess command max =
    unwrap_or (option_map (λ limit. not (int_eq max (pos limit))) (time_limit command)) true

-- the times of an entry for which none is given
abbrev pub HasNewTimes : ℕ → List (List ℕ) → CommandLine → CronEntry → Type 0
HasNewTimes asked names line e = IsTimed (asked_for asked line.command) line.when names e
    × (e.guess ≡ is_guess line.command e.max)

abbrev pub IsNewEntry : ℕ → List Given → List (List ℕ) → CommandLine → CronEntry → Type 0
IsNewEntry asked given names line e = (e.weight ≡ pos 1)
    × HasTimes (time_of given line (length names == 0) e.mode) (HasNewTimes asked names line) e

-- the default's longest time, which is no guess, and no parts
abbrev pub HasDefaultTime : DefaultEntry → CronEntry → Type 0
HasDefaultTime default e = (e.max ≡ default.max) × (e.parts ≡ []) × (e.guess ≡ false)

abbrev pub IsDefaultEntry : List Given → CommandLine → DefaultEntry → CronEntry → Type 0
IsDefaultEntry given line default e = (e.weight ≡ default.weight)
    × HasTimes (time_of given line true e.mode) (HasDefaultTime default) e

-- A new command has a new entry. With a default it has an entry only if it has something of its
-- own, and the entry then has the default's terms.
abbrev pub IsAdded : (CronEntry → Type 0) → (DefaultEntry → CronEntry → Type 0) → Bool
    → Option DefaultEntry → Option CronEntry → Type 0
IsAdded New Defaulted own None entry = IsSomeAnd entry New
IsAdded New Defaulted false (Some default) entry = entry ≡ None
IsAdded New Defaulted true (Some default) entry = IsSomeAnd entry (Defaulted default)

-- its own: a lock that it takes, or a given time
abbrev pub has_own : List Given → CommandLine → Bool
has_own given line =
    is_some (lock_of line.command) || is_some (max_of given (OfLine line.number))

abbrev pub is_text : List ℕ → Option (List ℕ) → Bool
is_text text None = false
is_text text (Some told) = bytes_eq told text

-- The entry has the mode of the command's flock(1) and the group of the lock file's name. It has
-- neither where the command takes no lock, or where there can be no such group.
abbrev pub IsLocked : List GroupEntry → Option (List ℕ × Mode) → CronEntry → Type 0
IsLocked groups None e = (e.group ≡ None) × (e.mode ≡ Plain)
IsLocked groups (Some lock) e = ((e.group ≡ Some lock.0) × (e.mode ≡ lock.1))
    ⊎ ((length groups ≡ MAX_GROUPS) × All (λ g. g.name ≢ lock.0) groups
    × (e.group ≡ None) × (e.mode ≡ Plain))

-- an added group is exclusive, and an entry is in it
abbrev pub is_new_group : Entries → GroupEntry → Bool
is_new_group d g = g.exclusive && list_any (λ e. is_text g.name e.group) d.cron

-- ---- what is kept

-- the name gives the line's command; if timed, its schedule as well
abbrev pub tells : Bool → CommandLine → LineName → Bool
tells timed line name = is_text line.command name.command
    && (not timed || is_some name.when && is_told_when name.when line.when)

-- no other line is like this one, which isn't `@reboot`, and one old entry alone gives it
abbrev pub is_lone : Bool → List CommandLine → Entries → CommandLine → Bool
is_lone timed lines old line = not (is_reboot line.when)
    && (count_by (are_like timed line) lines == 1
    && count_by (tells timed line) (names_of old) == 1)

-- the line isn't `@reboot`, and no old entry gives its command
abbrev pub is_new : Entries → CommandLine → Bool
is_new old line = not (is_reboot line.when) && count_by (tells false line) (names_of old) == 0

-- an old part keeps its longest time
abbrev pub KeepsPart : List PartEntry → PartEntry → Type 0
KeepsPart old p = IfSome (find (is_part p.name) old) (λ o. p.max ≡ o.max)

-- The longest time and the parts are kept. Or an entry with parts gets those of the table, and its
-- longest time is a guess if it was one or a part is new.
abbrev pub KeepsTimes : List (List ℕ) → CronEntry → CronEntry → Type 0
KeepsTimes names o n =
    ((n.max ≡ o.max) × (n.parts ≡ o.parts) × (n.guess ≡ o.guess))
    ⊎ ((names ≢ []) × (o.parts ≢ []) × HasParts names n × All (KeepsPart o.parts) n.parts
    × (n.guess ≡ (o.guess || not (all_are_parts names o.parts))))

-- the terms are the same, except for parts that came or went, and a given time
abbrev pub AreAlike : List Given → CommandLine → List (List ℕ) → CronEntry → CronEntry → Type 0
AreAlike given line names o n = (n.weight ≡ o.weight) × (n.group ≡ o.group) × (n.mode ≡ o.mode)
    × HasTimes (time_of given line (length o.parts == 0) n.mode) (KeepsTimes names o) n

-- A line that one old entry alone gives has an entry like that one, or stays in `left_out`.
abbrev pub IsKept : Bool → List Given → List Place → List CommandLine → Entries → Entries
    → CommandLine → Type 0
IsKept timed given places lines old new line = is_lone timed lines old line ≡ true
    → IfSome (find (λ e. tells timed line e.name) old.cron) (λ o. IsSomeAnd
    (find (λ e. is_named e.name line) new.cron) (AreAlike given line (parts_of places line) o))
    × (list_any (tells timed line) old.left_out ≡ true → is_left_out new line ≡ true)

-- no line has the name's command
abbrev pub is_gone : List CommandLine → LineName → Bool
is_gone lines name = list_all (λ line. not (is_text line.command name.command)) lines

-- the one old entry whose command is gone, where one line alone is new
abbrev pub left_behind : List CommandLine → Entries → Option CronEntry
left_behind lines old =
    if count_by (is_new old) lines == 1 && count_by (is_gone lines) (names_of old) == 1
    then find (λ e. is_gone lines e.name) old.cron else None

-- The new line may take the entry over: both commands run the same program, and the entry gives no
-- other schedule.
abbrev pub may_follow : CommandLine → CronEntry → Bool
may_follow line o = unwrap_or (option_map (λ program. is_text program (program_of line.command))
    (o.name.command >>= program_of)) false && is_told_when o.name.when line.when

-- A line keeps what the one old entry for it declares. A new command gets an entry of its own or
-- takes over the entry left behind; it isn't in `left_out`, and its entry has the command's lock.
pub record IsUpdatedLine (lines : List CommandLine) (places : List Place) (old : Entries)
    (behind : Option CronEntry) (max : ℕ) (given : List Given) (new : Entries) (line : CommandLine)
    : Type 0 where
  pub has_given : IfSome (find (λ e. is_named e.name line) new.cron) (HasGiven given line)
  pub kept : IsKept false given places lines old new line
  pub timed : IsKept true given places lines old new line
  pub added : is_new old line ≡ true → (IsAdded (IsNewEntry max given (parts_of places line) line)
      (IsDefaultEntry given line) (has_own given line) old.default
      (find (λ e. is_named e.name line) new.cron)
      ⊎ IsSomeAnd behind (λ o. (may_follow line o ≡ true) × IsSomeAnd
      (find (λ e. is_named e.name line) new.cron)
      (AreAlike given line (parts_of places line) o)))
      × (is_left_out new line ≡ false)
      × IfSome (find (λ e. is_named e.name line) new.cron)
      (IsLocked new.groups (lock_of line.command))

-- a given time of an anacron job is no less than timeout(1) allows its command
abbrev pub job_time : List Given → JobLine → Option ℕ
job_time given job =
    option_map (greater (time_limit job.command)) (max_of given (Identifier job.identifier))

-- the longest time, and whether it is a guess; a given one is none
abbrev pub given_or : Option ℕ → ℤ × Bool → ℤ × Bool
given_or None times = times
given_or (Some max) times = (pos max, false)

-- the times of a new anacron job
abbrev pub new_times : ℕ → List ℕ → ℤ × Bool
new_times asked command =
    (pos (asked_for asked command), is_guess command (pos (asked_for asked command)))

abbrev pub HasTerms : ℤ → Option (List ℕ) → ℤ × Bool → AnacronEntry → Type 0
HasTerms weight group times e = (e.weight ≡ weight) × (e.group ≡ group)
    × (e.max ≡ times.0) × (e.guess ≡ times.1)

-- An anacron job keeps its old entry, except for a given time. A new job has the least weight and
-- no group. With a default, only a job with a given time gets an entry, of the default's weight.
abbrev pub IsJobEntry : Option ℕ → ℤ × Bool → Option DefaultEntry → Option AnacronEntry
    → Option AnacronEntry → Type 0
IsJobEntry time times default (Some o) new =
    IsSomeAnd new (HasTerms o.weight o.group (given_or time (o.max, o.guess)))
IsJobEntry None times (Some default) None new = new ≡ None
IsJobEntry (Some max) times (Some default) None new =
    IsSomeAnd new (HasTerms default.weight None (pos max, false))
IsJobEntry time times None None new = IsSomeAnd new (HasTerms (pos 1) None (given_or time times))

abbrev pub IsUpdatedJob : Entries → ℕ → List Given → Entries → JobLine → Type 0
IsUpdatedJob old max given new line = IsJobEntry (job_time given line)
    (new_times max line.command) old.default (find (is_of_job line.identifier) old.anacron)
    (find (is_of_job line.identifier) new.anacron)

-- All else is as before. Groups may be added: each is exclusive, and an entry is in it.
pub record AreUpdates (crontab : Crontab) (anacrontab : Anacrontab) (places : List Place)
    (old : Entries) (max : ℕ) (given : List Given) (new : Entries) : Type 0 where
  pub lines : All (IsUpdatedLine crontab.lines places old (left_behind crontab.lines old) max given
      new) crontab.lines
  pub jobs : All (IsUpdatedJob old max given new) anacrontab.lines
  pub capacity : new.capacity ≡ old.capacity
  pub offset : new.offset ≡ old.offset
  pub zone : new.zone ≡ old.zone
  pub hours : new.hours ≡ old.hours
  pub pass : new.pass ≡ old.pass
  pub default : new.default ≡ old.default
  pub groups : take (length old.groups) new.groups ≡ old.groups
  pub new_groups : list_all (is_new_group new) (drop (length old.groups) new.groups) ≡ true

-- the same of the text that is read back
abbrev pub IsUpdate : Crontab → Anacrontab → List Place → Entries → ℕ → List Given → List ℕ
    → Type 0
IsUpdate crontab anacrontab places old max given bytes = (new : Entries)
    × IsSound crontab anacrontab bytes new
    × AreUpdates crontab anacrontab places old max given new

-- No job is declared, the capacity is the greatest, clocks follow a zone or are `east` minutes ahead
-- of UTC, and catch-up is at all hours.
abbrev pub nothing : ℤ → Option (List ℕ) → Entries
nothing east zone = record {
  capacity = pos MAX_CAPACITY;
  offset = if is_some zone then pos 0 else east;
  zone = zone;
  pass = None;
  default = None;
  hours = (pos 0, pos MINUTES_OF_DAY);
  groups = [];
  cron = [];
  anacron = [];
  left_out = [];
  doubled = None;
}

-- a line starts more than once in some minute by the clock of the entries' zone
abbrev pub has_twice_started : List CommandLine → Entries → Bool
has_twice_started lines d =
    is_some (find (λ line. starts_twice (zone_of d) line.when) lines)

-- A draft is an update of this: of nothing by the zone, or by the offset alone where a line would
-- start twice by the zone.
abbrev pub draft_base : List CommandLine → ℤ → Option (List ℕ) → Entries
draft_base lines east zone =
    if has_twice_started lines (nothing east zone) then nothing east None else nothing east zone

-- ---- warnings

-- a new command that names a program that locks files, isn't in `left_out`, and is in no group
unfoldable pub is_unlocked : Entries → Entries → CommandLine → Bool
is_unlocked old d line = names_lock line.command && (is_new old line
    && (not (is_left_out d line)
    && is_none (find (λ e. is_named e.name line) d.cron >>= λ e. e.group)))

-- a new anacron job that names one
abbrev pub is_unlocked_job : Entries → JobLine → Bool
is_unlocked_job old job =
    names_lock job.command && is_none (find (is_of_job job.identifier) old.anacron)

unfoldable pub warning_of : List ℕ → ℕ → List ℕ
warning_of table number = (((codes "warning: the command on line " ++ decimal number)
    ++ codes " of the ") ++ table) ++ codes " is declared without a lock: "

-- lines of the text warn of all these, in their order
unfoldable pub warn_of : List ℕ → List ℕ → List (List ℕ) → Bool
warn_of table [] lines = true
warn_of table (number ∷ numbers) [] = false
warn_of table (number ∷ numbers) (line ∷ lines) =
    if is_below (warning_of table number) line then warn_of table numbers lines
    else warn_of table (number ∷ numbers) lines

-- Standard error has a line for each new command and job without a lock, by the entries that the
-- bytes declare.
abbrev pub Warn : Crontab → Anacrontab → Entries → List ℕ → List ℕ → Type 0
Warn crontab anacrontab old bytes warnings = (d : Entries) × (declared_by bytes ≡ Ok d)
    × (warn_of (codes "crontab") (map (λ line. line.number)
    (filter (is_unlocked old d) crontab.lines)) (lines_of warnings) ≡ true)
    × (warn_of (codes "anacrontab") (map (λ job. job.number)
    (filter (is_unlocked_job old) anacrontab.lines)) (lines_of warnings) ≡ true)
