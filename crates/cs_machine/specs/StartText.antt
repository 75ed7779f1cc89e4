-- What is written of a command that can't be started.
use Rattle.std.specs.Prelude.{ℕ, List, ◌++◌, Option, Some, None, codes}
use Rattle.cs_place.specs.Shown.{shown_text}
use Rattle.cs_machine.specs.User.{why_not}
use Rattle.cs_machine.specs.declared.user.UserFault.{UserFault}

abbrev pub place_text : Option (List ℕ) → List ℕ
place_text None = codes ""
place_text (Some folder) = codes " in '" ++ folder ++ codes "'"

abbrev pub start_text : List ℕ → Option (List ℕ) → List ℕ → List ℕ
start_text shell folder why =
    codes "can't start '" ++ shell ++ codes "'" ++ place_text folder ++ codes ": " ++ why

abbrev pub user_text : List ℕ → UserFault → List ℕ
user_text user fault = codes "can't start a command as '" ++ user ++ codes "': " ++ why_not fault

abbrev pub remark_text : List ℕ → List ℕ → List ℕ
remark_text run why = run ++ codes ": " ++ why

-- on standard error, so that it stays one line
abbrev pub error_line : List ℕ → List ℕ
error_line text = codes "cronsafe: " ++ shown_text text ++ codes "\n"
