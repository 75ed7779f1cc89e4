-- The answer where help or the version is asked for, or the words aren't a call.
use Rattle.std.specs.Prelude.{◌≡◌, []}
use Rattle.cs_args.specs.Version.{version_text}
use Rattle.cs_io.specs.Files.{Failed}
use Rattle.cs_files.specs.Response.{Ending, done}

-- help is shown, on standard output alone
abbrev pub ShowsHelp : Failed → Failed → Ending → Type 0
ShowsHelp before failed ending = (failed ≡ before) × (ending.status ≡ 0) × (ending.err ≡ [])

abbrev pub ShowsVersion : Failed → Failed → Ending → Type 0
ShowsVersion before failed ending = (failed ≡ before) × (ending ≡ done version_text [])

-- standard error says that the words aren't a call of the program
abbrev pub IsRejected : Failed → Failed → Ending → Type 0
IsRejected before failed ending = (failed ≡ before) × (ending.status ≡ 4) × (ending.out ≡ [])
