-- How a text names the jobs of a plan.
use Rattle.std.specs.Prelude.{ℕ, List, ◌++◌, codes}
use Rattle.std.specs.Fmt.{decimal}
use Rattle.cs_plan.specs.Plan.{Declared, command_of, line_of}

-- `line N`
unfoldable pub command_name : Declared → ℕ → List ℕ
command_name d j = codes "line " ++ decimal (command_of d j).number

-- `line N due `
unfoldable pub due_name : Declared → ℕ → List ℕ
due_name d j = command_name d j ++ codes " due "

-- `ID`
abbrev pub identifier_of : Declared → ℕ → List ℕ
identifier_of d j = (line_of d j).identifier
