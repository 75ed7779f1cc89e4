-- Which files a call reads, in which order, and what it warns of first.
use Rattle.std.specs.Prelude.{◌≡◌, ◌⊎◌, ◌++◌, ℕ, ⊤, List, [], Option}
use Rattle.cs_args.specs.Asked.{Text}
use Rattle.cs_args.specs.Asked.{Asking, AskedDiff, Advise, Chart, Diff, Draft, Gather, Help}
use Rattle.cs_args.specs.Asked.{JudgeAll, Learn}
use Rattle.cs_args.specs.Asked.{Lint, LintAll, Next, Room}
use Rattle.cs_args.specs.CommandLine.{Asks}
use Rattle.cs_io.specs.Files.{AreReadInTurn, Failed, Reads}
use Rattle.cs_files.specs.Asked.{Warns}
use Rattle.cs_files.specs.Turn.{AreReadToGather, chart_paths, draft_paths, judge_paths, lint_paths}
use Rattle.cs_files.specs.Turn.{table_paths}
use Rattle.cs_learn.specs.Answer.{learned_paths}

-- the files of both plans, in order of their turn
abbrev pub both_paths : AskedDiff → List Text
both_paths a = judge_paths a.old ++ judge_paths a.new

-- the files of what is asked are read in turn, and nothing else is; of the words that name only
-- folders nothing is said
abbrev pub ReadsAsked : Asking → Reads → Reads → Type 0
ReadsAsked (Advise a) = AreReadInTurn (judge_paths a.judge)
ReadsAsked (Room a) = AreReadInTurn (judge_paths a)
ReadsAsked (Gather a) = AreReadToGather a
ReadsAsked (Draft a) = AreReadInTurn (draft_paths a)
ReadsAsked (Learn a) = AreReadInTurn (learned_paths a)
ReadsAsked (Lint a) = AreReadInTurn (lint_paths a)
ReadsAsked (Chart a) = AreReadInTurn (chart_paths a)
ReadsAsked (Next a) = AreReadInTurn (table_paths a.table a.anacrontab)
ReadsAsked (Diff a) = AreReadInTurn (both_paths a)
ReadsAsked (JudgeAll a) = λ old new. ⊤
ReadsAsked (LintAll a) = λ old new. ⊤
ReadsAsked other = AreReadInTurn []

-- of a call that asks for nothing nothing is read
abbrev pub ReadsInTurn : List Text → Reads → Reads → Type 0
ReadsInTurn words old new =
    ((a : Asking) × Asks words a × ReadsAsked a old new) ⊎ (new ≡ old)

-- warnings about the tables of what is asked; of those of two plans nothing is said
abbrev pub WarnsOf : Asking → (List ℕ → Option (List ℕ)) → Failed → Reads → Reads → List ℕ → Type 0
WarnsOf (Advise a) files = Warns files a.judge.table a.judge.anacrontab
WarnsOf (Room a) files = Warns files a.table a.anacrontab
WarnsOf (Draft a) files = Warns files a.table a.anacrontab
WarnsOf (Learn a) files = Warns files a.table a.anacrontab
WarnsOf (Chart a) files = Warns files a.day.table a.day.anacrontab
WarnsOf (Next a) files = Warns files a.table a.anacrontab
WarnsOf (Diff a) files = λ before old new w. ⊤
WarnsOf Help files = λ before old new w. ⊥
WarnsOf other files = λ before old new w. w ≡ []

-- a call that asks for nothing has none
abbrev pub WarnsOn : List Text → (List ℕ → Option (List ℕ)) → Failed → Reads → Reads → List ℕ → Type 0
WarnsOn words files before old new w =
    ((a : Asking) × Asks words a × WarnsOf a files before old new w)
    ⊎ ((new ≡ old) × (w ≡ []))
