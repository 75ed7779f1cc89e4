-- Why a path can't be read.
use Rattle.std.specs.Prelude.{ℕ, List, [], codes, ⊤}
use Rattle.cs_io.specs.declared.inputs.ReadFault.{ReadFault}
use Rattle.cs_io.specs.declared.inputs.ReadFault.TheVariants.{CannotRead, OutOfMemory}
use Rattle.cs_io.specs.declared.reason.Reason.{Reason}
use Rattle.cs_io.specs.declared.reason.Reason.TheVariants.{Absent, Endless, Folder, NoFolder, NotAllowed, TooManyNames, Unknown}

-- the text printed after the path
abbrev pub reason_text : Reason → List ℕ
reason_text Absent = codes ": there is no such file"
reason_text NotAllowed = codes ": it isn't allowed"
reason_text Folder = codes ": it is a folder"
reason_text NoFolder = codes ": it is no folder"
reason_text TooManyNames = codes ": it has more than 65536 names"
reason_text Endless = codes ": it has no end"
reason_text Unknown = []

-- the path can't be read, for whatever reason
abbrev pub IsCannotRead : ReadFault → Type 0
IsCannotRead (CannotRead reason) = ⊤
IsCannotRead OutOfMemory = ⊥
