-- What a call of the program writes, and the status that it ends with.
use Rattle.std.specs.Prelude.{ℕ, List, ◌∷◌, ◌++◌, [], codes}
use Rattle.cs_files.specs.declared.response.Status.{Status}
use Rattle.cs_files.specs.declared.response.Status.TheVariants.{Done, Refused, Unknown, BadInput, NoCall, NoMemory, DeviceFailed}

pub record Ending : Type 0 where
  pub status : ℕ
  pub out : List ℕ
  pub err : List ℕ

abbrev pub status_of : Status → ℕ
status_of Done = 0
status_of Refused = 1
status_of Unknown = 2
status_of BadInput = 3
status_of NoCall = 4
status_of NoMemory = 5
status_of DeviceFailed = 6

-- `cronsafe: ` and what is wrong
unfoldable pub complaint : List ℕ → List ℕ
complaint fault = codes "cronsafe: " ++ (fault ++ 10 ∷ [])

-- the call was done, with these warnings
abbrev pub done : List ℕ → List ℕ → Ending
done text warnings = record { status = 0; out = text; err = warnings }
