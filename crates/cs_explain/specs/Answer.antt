-- The answer to `explain`.
use Rattle.std.specs.Prelude.{◌≡◌, ◌⊎◌, []}
use Rattle.cs_io.specs.Files.{Failed}
use Rattle.cs_files.specs.Response.{Ending}

-- The text is printed; or, with status 4, nothing has such a name.
abbrev pub IsExplained : Ending → Type 0
IsExplained ending =
    ((ending.status ≡ 0) × (ending.err ≡ [])) ⊎ ((ending.status ≡ 4) × (ending.out ≡ []))

abbrev pub AnswersExplain : Failed → Failed → Ending → Type 0
AnswersExplain before after ending = (after ≡ before) × IsExplained ending
