-- Which files a call reads, in which order, and the warnings before its answer.
use Rattle.std.specs.Prelude.{◌≡◌, ◌⊎◌, ℕ, List, [], Option, None}
use Rattle.cs_args.specs.Asked.{Text}
use Rattle.cs_args.specs.Asked.{Apply, Asking, Check, Day, Help, Judge, Make, Replay, Run, Wall}
use Rattle.cs_args.specs.CommandLine.{Asks}
use Rattle.cs_io.specs.Files.{AreReadInTurn, Failed, Reads}
use Rattle.cs_files.specs.Asked.{Warns}
use Rattle.cs_files.specs.Turn.{check_paths, judge_paths, replay_paths, table_paths}

-- the files of what is asked are read one after the other, each in its turn, and nothing else is
abbrev pub ReadsAsked : Asking → Reads → Reads → Type 0
ReadsAsked (Day a) = AreReadInTurn (table_paths a.table a.anacrontab)
ReadsAsked (Wall a) = AreReadInTurn (table_paths a.day.table None)
ReadsAsked (Replay a) = AreReadInTurn (replay_paths a)
ReadsAsked (Check a) = AreReadInTurn (check_paths a)
ReadsAsked (Run a) = AreReadInTurn (check_paths a.check)
ReadsAsked (Judge a) = AreReadInTurn (judge_paths a)
ReadsAsked (Make a) = AreReadInTurn (judge_paths a.judge)
ReadsAsked (Apply a) = AreReadInTurn (judge_paths a.judge)
ReadsAsked other = AreReadInTurn []

-- and so of what the words ask; else nothing is read
abbrev pub ReadsInTurn : List Text → Reads → Reads → Type 0
ReadsInTurn words old new =
    ((a : Asking) × Asks words a × ReadsAsked a old new) ⊎ (new ≡ old)

-- the warnings of the tables of what is asked
abbrev pub WarnsOf : Asking → (List ℕ → Option (List ℕ)) → Failed → Reads → Reads → List ℕ → Type 0
WarnsOf (Day a) files = Warns files a.table a.anacrontab
WarnsOf (Wall a) files = Warns files a.day.table None
WarnsOf (Replay a) files = Warns files a.table a.anacrontab
WarnsOf (Check a) files = Warns files a.table a.anacrontab
WarnsOf (Run a) files = Warns files a.check.table a.check.anacrontab
WarnsOf (Judge a) files = Warns files a.table a.anacrontab
WarnsOf (Make a) files = Warns files a.judge.table a.judge.anacrontab
WarnsOf (Apply a) files = Warns files a.judge.table a.judge.anacrontab
WarnsOf Help files = λ before old new w. ⊥
WarnsOf other files = λ before old new w. w ≡ []

-- and so of what the words ask; else nothing
abbrev pub WarnsOn : List Text → (List ℕ → Option (List ℕ)) → Failed → Reads → Reads → List ℕ → Type 0
WarnsOn words files before old new w =
    ((a : Asking) × Asks words a × WarnsOf a files before old new w)
    ⊎ ((new ≡ old) × (w ≡ []))
