-- What a new plan waits for, as `reload` says it.
use Rattle.std.specs.Prelude.{ℕ, ◌/◌, nat_le, if◌then◌else◌, List, [], ◌++◌, codes, Option, None, Some}
use Rattle.cs_civil.specs.Calendar.{last_day}
use Rattle.cs_place.specs.Shown.{shown_text}
use Rattle.cs_machine.specs.RunLog.{moment_text}

-- nothing where the end isn't known, and after the year 9999
abbrev pub until_text : Option ℕ → List ℕ
until_text None = []
until_text (Some at) =
    if nat_le (at / 86_400) last_day then codes ", which may run until " ++ moment_text at else []

abbrev pub running_text : List ℕ → Option ℕ → List ℕ
running_text run end =
    codes "cronsafe: waiting for " ++ shown_text run ++ until_text end ++ codes "\n"

abbrev pub waiting_text : List ℕ → List ℕ
waiting_text run =
    codes "cronsafe: waiting for " ++ shown_text run ++ codes ", which waits for its lock\n"
