-- An ending in a format.
use Rattle.std.specs.Prelude.{◌≡◌, ℕ, List}
use Rattle.cs_args.specs.declared.request.Format.{Format}
use Rattle.cs_args.specs.declared.request.Format.TheVariants.{Text}
use Rattle.cs_files.specs.Response.{Ending}

-- as text, it is that ending; in another format only standard output is another text
abbrev pub IsShownAs : Format → Ending → Ending → Type 0
IsShownAs Text plain ending = ending ≡ plain
IsShownAs other plain ending = (text : List ℕ) × (ending ≡ record plain { out = text })

-- it is, in that format, an ending of which this holds
abbrev pub IsIn : Format → (Ending → Type 0) → Ending → Type 0
IsIn format P ending = (plain : Ending) × P plain × IsShownAs format plain ending
