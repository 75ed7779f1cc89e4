-- The command line, as `clap` reads it, and what its words ask.
use Prim.Native.String.{String}
use Rattle.std.specs.Prelude.{◌≡◌, ◌≢◌, ◌⊎◌, ◌^◌, ◌==◌, ℕ, Bool, false, List, [], ◌∷◌, count_by, find, fold, is_none, is_some, not, Option, Some, None, sum_by, true, codes, option_and_then, unwrap_or, length, min, if◌then◌else◌, nat_lt, ◌&&◌, ◌||◌, Result, Ok, Err, ⊤}
use Rattle.std.specs.Str.Parse.{digits_value}
use Rattle.std.specs.Char.{is_ascii_digit}
use Rattle.std.specs.List.{list_all, list_any}
use Rattle.std.specs.Option.{option_map_or}
use Rattle.std.specs.List.{slice_get}
use Rattle.std.specs.Str.{bytes_eq}
use Rattle.clap.specs.Words.{App, IsAmong, Row, Rule, all_of, fault_of, first_of, kind_of, new_app, new_rule, subcommand_of, with_rule, with_subcommand}
use Rattle.clap.specs.Simple.{on_top}
use Rattle.clap.specs.declared.builder.action.ArgAction.TheVariants.{Append, SetTrue}
use Rattle.clap.specs.declared.error.Error.{Error}
use Rattle.clap.specs.declared.error.kind.ErrorKind.{ErrorKind}
use Rattle.clap.specs.declared.error.kind.ErrorKind.TheVariants.{DisplayHelp, DisplayVersion}
use Rattle.clap.specs.declared.error.kind.ErrorKind.TheVariants as kind
use Rattle.cs_args.specs.Asked.{Asked, AskedAll, AskedCheck, AskedJudge, Text, asking}
use Rattle.cs_args.specs.Asked.{Advise, Apply, Asking, Chart, Check, Day, Diff, Draft, Explain, Gather, Help as HelpAsking, Judge, JudgeAll, Learn, Lint, LintAll, Make, Next, Reload, Replay, Room, Run, Status, Stop, Wall}
use Rattle.cs_args.specs.declared.request.Format.{Format}
use Rattle.cs_args.specs.declared.request.Format.TheVariants as format
use Rattle.cs_args.specs.declared.request.Request.{Request}
use Rattle.cs_args.specs.declared.request.UsageFault.TheVariants.{Help, NoCall, OutOfMemory, Version}
use Rattle.cs_args.specs.declared.request.UsageFault.{UsageFault}
use Rattle.cs_args.specs.declared.table.Subcommand.{Subcommand}
use Rattle.cs_args.specs.declared.table.Subcommand.TheVariants as subcommand

-- an optional word, a required one, and one or more
abbrev pub optional_word : String → Rule
optional_word id = new_rule (codes id)

abbrev pub word : String → Rule
word id = record (new_rule (codes id)) { required = true }

abbrev pub words : String → Rule
words id = record (word id) { action = Some Append }

-- `--NAME VALUE`, which can be given once, or more than once, and `--NAME`
abbrev pub value : String → Rule
value id = record (new_rule (codes id)) { long = Some (codes id); value_names = 1 }

abbrev pub values : String → Rule
values id = record (value id) { action = Some Append }

-- `--NAME OLD NEW`
abbrev pub pair : String → Rule
pair id = record (new_rule (codes id)) { long = Some (codes id); value_names = 2 }

abbrev pub flag : String → Rule
flag id = record (new_rule (codes id)) { long = Some (codes id); action = Some SetTrue }

-- the name of a subcommand and its arguments
abbrev pub usage_of : Subcommand → Text × List Rule
usage_of subcommand.Judge = (
  codes "judge",
  word "TABLE" ∷ word "DECLS" ∷ value "anacrontab" ∷ value "format" ∷ [],
)
usage_of subcommand.Check = (
  codes "check",
  word "TABLE" ∷ word "DECLS" ∷ word "CERT" ∷ value "anacrontab" ∷ value "format" ∷ [],
)
usage_of subcommand.Make = (
  codes "make",
  word "TABLE" ∷ word "DECLS" ∷ value "anacrontab" ∷ flag "compact" ∷ [],
)
usage_of subcommand.Advise = (
  codes "advise",
  word "TABLE" ∷ word "DECLS" ∷ value "anacrontab" ∷ value "within" ∷ value "first" ∷
      value "format" ∷ [],
)
usage_of subcommand.Room = (
  codes "room",
  word "TABLE" ∷ word "DECLS" ∷ value "anacrontab" ∷ value "format" ∷ [],
)
usage_of subcommand.Run = (
  codes "run",
  word "TABLE" ∷ word "DECLS" ∷ word "CERT" ∷ word "STAMPS" ∷ value "anacrontab" ∷
      value "minutes" ∷ value "log" ∷ value "output" ∷ value "keep" ∷ flag "home" ∷
      flag "enforce" ∷ value "on-overrun" ∷ value "on-failure" ∷ value "on-limit" ∷
      value "on-success" ∷ value "on-recovered" ∷ value "mail" ∷ flag "last-accepted" ∷
      flag "check-only" ∷ [],
)
usage_of subcommand.Stop = (codes "stop", word "STAMPS" ∷ flag "now" ∷ [])
usage_of subcommand.Reload = (codes "reload", word "STAMPS" ∷ flag "drain" ∷ [])
usage_of subcommand.Apply = (
  codes "apply",
  word "TABLE" ∷ word "DECLS" ∷ word "CERT" ∷ word "STAMPS" ∷ value "anacrontab" ∷ [],
)
usage_of subcommand.Status =
    (codes "status", word "STAMPS" ∷ flag "json" ∷ flag "metrics" ∷ [])
usage_of subcommand.Gather = (codes "gather", value "root" ∷ values "system" ∷ values "user" ∷ [])
usage_of subcommand.Draft = (
  codes "draft",
  word "TABLE" ∷ value "anacrontab" ∷ value "max" ∷ value "update" ∷ value "max-from" ∷ [],
)
usage_of subcommand.Learn = (
  codes "learn",
  word "TABLE" ∷ words "LOG" ∷ value "anacrontab" ∷ value "factor" ∷ [],
)
usage_of subcommand.Lint = (
  codes "lint",
  word "TABLE" ∷ optional_word "DECLS" ∷ value "anacrontab" ∷ value "zone" ∷ values "only" ∷
      values "except" ∷ flag "faults-only" ∷ value "format" ∷ [],
)
usage_of subcommand.Day = (
  codes "day",
  word "TABLE" ∷ word "DATE" ∷ optional_word "MAX" ∷ value "anacrontab" ∷ value "from" ∷
      value "to" ∷ value "zone" ∷ [],
)
usage_of subcommand.Chart = (
  codes "chart",
  word "TABLE" ∷ word "DATE" ∷ optional_word "MAX" ∷ value "anacrontab" ∷ value "from" ∷
      value "to" ∷ value "days" ∷ value "declarations" ∷ [],
)
usage_of subcommand.Replay = (
  codes "replay",
  word "TABLE" ∷ word "SCRIPT" ∷ value "max" ∷ value "anacrontab" ∷ value "declarations" ∷
      flag "judge" ∷ flag "log" ∷ flag "script" ∷ [],
)
usage_of subcommand.Explain = (codes "explain", optional_word "NAME" ∷ [])
usage_of subcommand.JudgeAll = (codes "judge --all", words "FOLDER" ∷ value "format" ∷ [])
usage_of subcommand.LintAll = (
  codes "lint --all",
  words "FOLDER" ∷ values "only" ∷ values "except" ∷ flag "faults-only" ∷ value "format" ∷ [],
)
usage_of subcommand.Diff = (
  codes "diff",
  word "OLD_TABLE" ∷ word "OLD_DECLS" ∷ word "NEW_TABLE" ∷ word "NEW_DECLS" ∷
      pair "anacrontab" ∷ value "since" ∷ value "format" ∷ [],
)
usage_of subcommand.Next = (
  codes "next",
  word "TABLE" ∷ value "anacrontab" ∷ value "count" ∷ value "from" ∷ flag "json" ∷ [],
)
usage_of subcommand.Help = (codes "help", optional_word "COMMAND" ∷ [])

abbrev pub name_of : Subcommand → Text
name_of s = (usage_of s).0

abbrev pub rules_of : Subcommand → List Rule
rules_of s = (usage_of s).1

-- all of them, in the order of the help
unfoldable pub all_subcommands : List Subcommand
all_subcommands =
    subcommand.Judge ∷ subcommand.Check ∷ subcommand.Make ∷ subcommand.Advise ∷ subcommand.Room ∷
    subcommand.Run ∷ subcommand.Stop ∷ subcommand.Reload ∷ subcommand.Apply ∷ subcommand.Status ∷
    subcommand.Gather ∷ subcommand.Draft ∷ subcommand.Learn ∷ subcommand.Lint ∷ subcommand.Day ∷
    subcommand.Chart ∷ subcommand.Replay ∷ subcommand.Explain ∷ subcommand.JudgeAll ∷
    subcommand.LintAll ∷ subcommand.Diff ∷ subcommand.Next ∷ subcommand.Help ∷ []

-- the arguments whose value is a number below 2 ^ 64, in decimal digits
abbrev pub numbers : List Text
numbers =
    codes "MAX" ∷ codes "from" ∷ codes "to" ∷ codes "days" ∷ codes "max" ∷ codes "minutes" ∷
    codes "keep" ∷ codes "within" ∷ codes "first" ∷ []

-- the `--from` of `next` is a date
abbrev pub numbers_of : Subcommand → List Text
numbers_of subcommand.Next = codes "count" ∷ []
numbers_of _ = numbers

-- the arguments at which - is standard input, in one of them at most; no rule of a zone is -
abbrev pub inputs : List Text
inputs =
    codes "TABLE" ∷ codes "DECLS" ∷ codes "CERT" ∷ codes "SCRIPT" ∷ codes "LOG" ∷
    codes "anacrontab" ∷ codes "declarations" ∷ codes "update" ∷ codes "max-from" ∷ codes "zone" ∷
    codes "system" ∷ codes "user" ∷ codes "OLD_TABLE" ∷ codes "OLD_DECLS" ∷ codes "NEW_TABLE" ∷
    codes "NEW_DECLS" ∷ []

-- `cronsafe`: it has a version, and requires a subcommand; its `help` is not that of `clap`
unfoldable pub top_app : App
top_app = on_top (λ s.
    record s { disable_help_subcommand = true; subcommand_required = true; has_version = true })
    (new_app (codes "cronsafe"))

-- the command line of one subcommand
abbrev pub app_of_subcommand : Subcommand → App
app_of_subcommand s = fold with_rule (new_app (name_of s)) (rules_of s)

abbrev pub with_all : App → List Subcommand → App
with_all = fold (λ app s. with_subcommand app (app_of_subcommand s).top)

unfoldable pub cronsafe_app : App
cronsafe_app = with_all top_app all_subcommands

abbrev pub named_among : List Subcommand → Text → Option Subcommand
named_among subcommands name = find (λ s. bytes_eq (name_of s) name) subcommands

abbrev pub subcommand_named : Text → Option Subcommand
subcommand_named = named_among all_subcommands

-- the number that digits write, where it is below 2 ^ 64
abbrev pub number_of : Text → Option ℕ
number_of text =
    if list_all is_ascii_digit text
    then (if nat_lt 0 (length text) && nat_lt (digits_value 10 text) (2 ^ 64)
    then Some (digits_value 10 text) else None)
    else None

-- an argument is given, or an option with no value is
abbrev pub is_given : Text → List Row → Bool
is_given id rows = is_some (first_of id rows)

abbrev pub has_flag : Text → List Row → Bool
has_flag id rows = option_map_or (λ text. bytes_eq text (codes "true")) (first_of id rows) false

-- the first value of an argument, and this text where it has none; all values, in order
abbrev pub value_or : Text → Text → List Row → Text
value_or absent id rows = unwrap_or (first_of id rows) absent

abbrev pub values_in : Text → List Row → List Text
values_in id rows = unwrap_or (all_of id rows) []

-- its number, if it has one, and this number where it has none
abbrev pub optional_number : Text → List Row → Option ℕ
optional_number id rows = option_and_then number_of (first_of id rows)

abbrev pub number_or : ℕ → Text → List Row → ℕ
number_or absent id rows = unwrap_or (optional_number id rows) absent

-- one of these arguments is given, and isn't a number
abbrev pub has_no_number : List Text → List Row → Bool
has_no_number ids rows =
    list_any (λ id. is_given id rows && is_none (optional_number id rows)) ids

abbrev pub is_dash : Text → Bool
is_dash path = bytes_eq path (45 ∷ [])

-- the values of these arguments name standard input more than once
abbrev pub is_twice_standard : List Text → List Row → Bool
is_twice_standard ids rows = nat_lt 1 (sum_by (λ id. count_by is_dash (values_in id rows)) ids)

-- `help` is given a name that no subcommand has
abbrev pub has_unknown_name : List Row → Bool
has_unknown_name rows =
    option_map_or (λ name. is_none (subcommand_named name)) (first_of (codes "COMMAND") rows) false

abbrev pub format_named : Text → Option Format
format_named name =
    if bytes_eq name (codes "text") then Some format.Text
    else if bytes_eq name (codes "json") then Some format.Json
    else if bytes_eq name (codes "sarif") then Some format.Sarif
    else if bytes_eq name (codes "github") then Some format.Github
    else None

-- the format of findings: lines for people where none is named
abbrev pub format_in : List Row → Format
format_in rows = unwrap_or (option_and_then format_named (first_of (codes "format") rows)) format.Text

-- `--format` has no name that the subcommand knows
abbrev pub is_unfit : Subcommand → Text → Bool
is_unfit subcommand.Diff name =
    not (bytes_eq name (codes "text")) && not (bytes_eq name (codes "markdown"))
is_unfit _ name = is_none (format_named name)

abbrev pub has_unfit_format : Subcommand → List Row → Bool
has_unfit_format s rows = option_map_or (is_unfit s) (first_of (codes "format") rows) false

-- the second value of an argument
abbrev pub second_of : Text → List Row → Option Text
second_of id rows = slice_get (values_in id rows) 1

-- `chart` has neither MAX nor declarations, `gather` no path, or `day` a rule of a time zone and an
-- anacrontab
abbrev pub is_unsuited : Subcommand → List Row → Bool
is_unsuited subcommand.Chart rows =
    not (is_given (codes "MAX") rows) && not (is_given (codes "declarations") rows)
is_unsuited subcommand.Gather rows =
    not (is_given (codes "root") rows)
    && (not (is_given (codes "system") rows) && not (is_given (codes "user") rows))
is_unsuited subcommand.Day rows =
    is_given (codes "zone") rows && is_given (codes "anacrontab") rows
is_unsuited _ rows = false

-- `--keep` or `--mail` without `--output`, `--json` with `--metrics`, standard input twice,
-- `--script` without `--log`, or a number out of its range: the days of `chart`, the minutes and
-- changes of `advise`, the starts of `next`
abbrev pub is_misfit : List Row → Bool
is_misfit rows =
    (is_given (codes "keep") rows && not (is_given (codes "output") rows))
    || ((is_given (codes "mail") rows && not (is_given (codes "output") rows))
    || ((has_flag (codes "json") rows && has_flag (codes "metrics") rows)
    || ((number_or 30 (codes "keep") rows == 0)
    || (is_twice_standard inputs rows
    || ((has_flag (codes "script") rows && not (has_flag (codes "log") rows))
    || ((number_or 1 (codes "days") rows == 0 || nat_lt 7 (number_or 1 (codes "days") rows))
    || ((number_or 120 (codes "within") rows == 0
    || nat_lt 1439 (number_or 120 (codes "within") rows))
    || (number_or 1 (codes "first") rows == 0
    || (number_or 10 (codes "count") rows == 0
    || nat_lt 10000 (number_or 10 (codes "count") rows))))))))))

-- the words of a subcommand are wrong, though they have its form
abbrev pub is_wrong : Subcommand → List Row → Bool
is_wrong s rows =
    is_unsuited s rows
    || (has_no_number (numbers_of s) rows
    || (has_unknown_name rows || (has_unfit_format s rows || is_misfit rows)))

-- what words that aren't wrong ask: of a day with this longest time where none is given
abbrev pub day_in : ℕ → List Row → Asked
day_in absent rows = record {
  table = value_or [] (codes "TABLE") rows;
  date = value_or [] (codes "DATE") rows;
  max = number_or absent (codes "MAX") rows;
  anacrontab = first_of (codes "anacrontab") rows;
  from = number_or 0 (codes "from") rows;
  to = number_or 1440 (codes "to") rows;
}

abbrev pub check_in : List Row → AskedCheck
check_in rows = record {
  table = value_or [] (codes "TABLE") rows;
  declarations = value_or [] (codes "DECLS") rows;
  certificate = value_or [] (codes "CERT") rows;
  anacrontab = first_of (codes "anacrontab") rows;
  format = format_in rows;
}

abbrev pub judge_in : List Row → AskedJudge
judge_in rows = record {
  table = value_or [] (codes "TABLE") rows;
  declarations = value_or [] (codes "DECLS") rows;
  anacrontab = first_of (codes "anacrontab") rows;
  format = format_in rows;
}

abbrev pub all_in : List Row → AskedAll
all_in rows = record {
  folders = values_in (codes "FOLDER") rows;
  only = values_in (codes "only") rows;
  except = values_in (codes "except") rows;
  faults_only = has_flag (codes "faults-only") rows;
  format = format_in rows;
}

-- the files of `diff` before and after
abbrev pub old_in : List Row → AskedJudge
old_in rows = record {
  table = value_or [] (codes "OLD_TABLE") rows;
  declarations = value_or [] (codes "OLD_DECLS") rows;
  anacrontab = first_of (codes "anacrontab") rows;
  format = format.Text;
}

abbrev pub new_in : List Row → AskedJudge
new_in rows = record {
  table = value_or [] (codes "NEW_TABLE") rows;
  declarations = value_or [] (codes "NEW_DECLS") rows;
  anacrontab = second_of (codes "anacrontab") rows;
  format = format.Text;
}

abbrev pub asked_in : Subcommand → List Row → Asking
asked_in subcommand.Day rows =
    option_map_or (λ rule. Wall (record { day = day_in 1 rows; rule = rule }))
    (first_of (codes "zone") rows) (Day (day_in 1 rows))
asked_in subcommand.Chart rows = Chart (record {
  day = day_in 1440 rows;
  days = min 7 (number_or 1 (codes "days") rows);
  declarations = first_of (codes "declarations") rows;
})
asked_in subcommand.Replay rows = Replay (record {
  table = value_or [] (codes "TABLE") rows;
  script = value_or [] (codes "SCRIPT") rows;
  max = number_or 1440 (codes "max") rows;
  anacrontab = first_of (codes "anacrontab") rows;
  declarations = first_of (codes "declarations") rows;
  judge = has_flag (codes "judge") rows;
  log = has_flag (codes "log") rows;
  show_script = has_flag (codes "script") rows;
})
asked_in subcommand.Check rows = Check (check_in rows)
asked_in subcommand.Run rows = Run (record {
  check = check_in rows;
  stamps = value_or [] (codes "STAMPS") rows;
  minutes = optional_number (codes "minutes") rows;
  log = first_of (codes "log") rows;
  output = first_of (codes "output") rows;
  keep = optional_number (codes "keep") rows;
  home = has_flag (codes "home") rows;
  enforce = has_flag (codes "enforce") rows;
  on_overrun = first_of (codes "on-overrun") rows;
  on_failure = first_of (codes "on-failure") rows;
  on_limit = first_of (codes "on-limit") rows;
  on_success = first_of (codes "on-success") rows;
  on_recovered = first_of (codes "on-recovered") rows;
  mail = first_of (codes "mail") rows;
  last_accepted = has_flag (codes "last-accepted") rows;
  check_only = has_flag (codes "check-only") rows;
})
asked_in subcommand.Stop rows = Stop (record {
  stamps = value_or [] (codes "STAMPS") rows;
  now = has_flag (codes "now") rows;
})
asked_in subcommand.Reload rows = Reload (record {
  stamps = value_or [] (codes "STAMPS") rows;
  drain = has_flag (codes "drain") rows;
})
asked_in subcommand.Status rows = Status (record {
  stamps = value_or [] (codes "STAMPS") rows;
  json = has_flag (codes "json") rows;
  metrics = has_flag (codes "metrics") rows;
})
asked_in subcommand.Apply rows = Apply (record {
  judge = judge_in rows;
  certificate = value_or [] (codes "CERT") rows;
  stamps = value_or [] (codes "STAMPS") rows;
})
asked_in subcommand.Judge rows = Judge (judge_in rows)
asked_in subcommand.Make rows =
    Make (record { judge = judge_in rows; compact = has_flag (codes "compact") rows })
asked_in subcommand.Advise rows =
    Advise (record {
      judge = judge_in rows;
      within = number_or 120 (codes "within") rows;
      first = optional_number (codes "first") rows;
    })
asked_in subcommand.Room rows = Room (judge_in rows)
asked_in subcommand.Gather rows = Gather (record {
  root = first_of (codes "root") rows;
  system = values_in (codes "system") rows;
  user = values_in (codes "user") rows;
})
asked_in subcommand.Draft rows = Draft (record {
  table = value_or [] (codes "TABLE") rows;
  max = number_or 60 (codes "max") rows;
  anacrontab = first_of (codes "anacrontab") rows;
  update = first_of (codes "update") rows;
  maxes = first_of (codes "max-from") rows;
})
asked_in subcommand.Learn rows = Learn (record {
  table = value_or [] (codes "TABLE") rows;
  logs = values_in (codes "LOG") rows;
  anacrontab = first_of (codes "anacrontab") rows;
  factor = value_or (codes "1.5") (codes "factor") rows;
})
asked_in subcommand.Lint rows = Lint (record {
  table = value_or [] (codes "TABLE") rows;
  declarations = first_of (codes "DECLS") rows;
  anacrontab = first_of (codes "anacrontab") rows;
  zone = first_of (codes "zone") rows;
  only = values_in (codes "only") rows;
  except = values_in (codes "except") rows;
  faults_only = has_flag (codes "faults-only") rows;
  format = format_in rows;
})
asked_in subcommand.JudgeAll rows = JudgeAll (all_in rows)
asked_in subcommand.LintAll rows = LintAll (all_in rows)
asked_in subcommand.Diff rows = Diff (record {
  old = old_in rows;
  new = new_in rows;
  since = first_of (codes "since") rows;
  markdown = bytes_eq (value_or [] (codes "format") rows) (codes "markdown");
})
asked_in subcommand.Next rows = Next (record {
  table = value_or [] (codes "TABLE") rows;
  anacrontab = first_of (codes "anacrontab") rows;
  count = number_or 10 (codes "count") rows;
  from = first_of (codes "from") rows;
  json = has_flag (codes "json") rows;
})
asked_in subcommand.Explain rows = Explain (first_of (codes "NAME") rows)
asked_in subcommand.Help rows = HelpAsking

-- what is asked with a name and the words after it
abbrev pub asked_by : Text → List Row → Option Asking
asked_by name rows = option_and_then
    (λ s. if is_wrong s rows then None else Some (asked_in s rows)) (subcommand_named name)

-- what words ask, the first of which is the program's name
abbrev pub asked_of : List Text → Option Asking
asked_of words = option_and_then (λ p. asked_by p.0 p.1) (subcommand_of cronsafe_app words)

-- the words are those of a call, which asks this
abbrev pub Asks : List Text → Asking → Type 0
Asks words a = (fault_of cronsafe_app words ≡ []) × (asked_of words ≡ Some a)

-- the words are a call for help, by `--help` or by the subcommand `help`
abbrev pub AsksHelp : List Text → Type 0
AsksHelp words = IsAmong DisplayHelp (fault_of cronsafe_app words) ⊎ Asks words HelpAsking

-- the words are a call for the version
abbrev pub AsksVersion : List Text → Type 0
AsksVersion words = IsAmong DisplayVersion (fault_of cronsafe_app words)

-- the words aren't a call: `clap` refuses them, or they are wrong
abbrev pub IsNoCall : List Text → Type 0
IsNoCall words =
    ((fault : ErrorKind) × IsAmong fault (fault_of cronsafe_app words) × (fault ≢ DisplayHelp)
    × (fault ≢ DisplayVersion))
    ⊎ ((fault_of cronsafe_app words ≡ []) × (asked_of words ≡ None))

-- the answer to words: what they ask; help or the version where these are asked for; or a fault of
-- the words where there is one
abbrev pub Parses : List Text → Result Request UsageFault → Type 0
Parses words (Ok r) = Asks words (asking r)
Parses words (Err (Help text)) = AsksHelp words
Parses words (Err Version) = AsksVersion words
Parses words (Err (NoCall text)) = IsNoCall words
Parses words (Err OutOfMemory) = ⊤

-- the answer to what is asked: the request, help where that is asked, or a fault of the words where
-- nothing is
abbrev pub Answers : Option Asking → Result Request UsageFault → Type 0
Answers wanted (Ok r) = wanted ≡ Some (asking r)
Answers wanted (Err (Help text)) = wanted ≡ Some HelpAsking
Answers wanted (Err Version) = ⊥
Answers wanted (Err (NoCall text)) = wanted ≡ None
Answers wanted (Err OutOfMemory) = ⊤

abbrev pub FaultOf : Error → UsageFault → Type 0
FaultOf e (Help text) = kind_of e ≡ DisplayHelp
FaultOf e Version = kind_of e ≡ DisplayVersion
FaultOf e (NoCall text) =
    (kind_of e ≢ DisplayHelp) × (kind_of e ≢ DisplayVersion) × (kind_of e ≢ kind.OutOfMemory)
FaultOf e OutOfMemory = ⊤
