-- Which files a call reads, and in which order.
use Rattle.std.specs.Prelude.{◌≡◌, ◌++◌, List, [], ◌∷◌, Option, Some, None}
use Rattle.clap.specs.Words.{Text}
use Rattle.cs_io.specs.Files.{AreReadInTurn, Reads}
use Rattle.cs_args.specs.Asked.{AskedChart, AskedCheck, AskedDraft, AskedGather, AskedJudge}
use Rattle.cs_args.specs.Asked.{AskedLint, AskedReplay}

-- the path of a file that needn't be given
abbrev pub some_path : Option Text → List Text
some_path None = []
some_path (Some path) = path ∷ []

abbrev pub table_paths : Text → Option Text → List Text
table_paths table anacrontab = table ∷ some_path anacrontab

abbrev pub plan_paths : Text → Option Text → Text → List Text
plan_paths table anacrontab declarations = table_paths table anacrontab ++ (declarations ∷ [])

-- the files of a subcommand, in order of their turn
abbrev pub replay_paths : AskedReplay → List Text
replay_paths a = table_paths a.table a.anacrontab ++ (some_path a.declarations ++ (a.script ∷ []))

abbrev pub check_paths : AskedCheck → List Text
check_paths a = plan_paths a.table a.anacrontab a.declarations ++ (a.certificate ∷ [])

abbrev pub judge_paths : AskedJudge → List Text
judge_paths a = plan_paths a.table a.anacrontab a.declarations

abbrev pub draft_paths : AskedDraft → List Text
draft_paths a = table_paths a.table a.anacrontab ++ (some_path a.update ++ some_path a.maxes)

abbrev pub lint_paths : AskedLint → List Text
lint_paths a = (table_paths a.table a.anacrontab ++ some_path a.declarations) ++ some_path a.zone

abbrev pub chart_paths : AskedChart → List Text
chart_paths a = table_paths a.day.table a.day.anacrontab ++ some_path a.declarations

-- those that the words name
abbrev pub gather_paths : AskedGather → List Text
gather_paths a = a.system ++ a.user

-- those below the root folder, of which the words say nothing, and then those that the words name
abbrev pub AreReadToGather : AskedGather → Reads → Reads → Type 0
AreReadToGather a old new = (found : List Text) × (a.root ≡ None → found ≡ [])
    × AreReadInTurn (found ++ gather_paths a) old new
