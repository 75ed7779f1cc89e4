-- What the files of a call gave, the warnings before an answer is worked out, and the answer.
use Rattle.std.specs.Prelude.{◌≡◌, ◌⊎◌, ℕ, List, [], Option, Result, Ok, Err}
use Rattle.clap.specs.Words.{Text}
use Rattle.cs_crontab.specs.Crontab.{Table}
use Rattle.cs_anacrontab.specs.Anacrontab.{Table as JobTable}
use Rattle.cs_place.specs.Places.{places_of}
use Rattle.cs_report.specs.Warning.{warnings as warnings_text}
use Rattle.cs_io.specs.Files.{AreReadInTurn, Failed, Reads}
use Rattle.cs_files.specs.Ending.{Sink, Tries}
use Rattle.cs_files.specs.Reads.{FittingIn, ReadsFitting, ReadsTables, TextIn}
use Rattle.cs_files.specs.Response.{Ending}
use Rattle.cs_files.specs.Trouble.{Trouble, ends}
use Rattle.cs_files.specs.Turn.{table_paths}
use Rattle.cs_files.specs.declared.asked.Planned.{Planned}
use Rattle.cs_files.specs.declared.asked.Tables.{Tables}

-- this was written to standard error if it could be, and this holds of it
abbrev pub Tells : (List ℕ → Type 0) → Sink → Sink → Type 0
Tells P old new = (w : List ℕ) × Tries w old new × P w

-- these are the warnings of the tables that the files denote
abbrev pub AreWarnings : (List ℕ → Option (List ℕ)) → Text → Option Text → Failed → List ℕ → Type 0
AreWarnings files table anacrontab before warnings =
    (both : Table × JobTable) × ReadsTables files table anacrontab before before (Ok both)
    × (warnings ≡ warnings_text both.0 both.1)

-- no warnings while only the tables were read; then those of both tables
abbrev pub Warns : (List ℕ → Option (List ℕ)) → Text → Option Text → Failed → Reads → Reads
    → List ℕ → Type 0
Warns files table anacrontab before old new w =
    ((w ≡ []) × AreReadInTurn (table_paths table anacrontab) old new)
    ⊎ AreWarnings files table anacrontab before w

abbrev pub both_of : Tables → Table × JobTable
both_of tables = (tables.crontab, tables.jobs)

-- the files denote these tables; the crontab has this text and these places, and these are the
-- warnings
pub record AreTables (files : List ℕ → Option (List ℕ)) (table : Text) (anacrontab : Option Text)
    (w : List ℕ) (failed : Failed) (tables : Tables) : Type 0 where
  pub read : ReadsTables files table anacrontab failed failed (Ok (both_of tables))
  pub text : TextIn files table tables.crontab tables.text
  pub places : tables.places ≡ places_of tables.text tables.crontab
  pub warned : w ≡ warnings_text tables.crontab tables.jobs

-- both tables, each read in its turn, or the first fault, before which there are no warnings
abbrev pub FindsTables : (List ℕ → Option (List ℕ)) → Text → Option Text → List ℕ → Failed → Failed
    → Result Tables Trouble → Type 0
FindsTables files table anacrontab w before after (Ok tables) =
    (after ≡ before) × AreTables files table anacrontab w before tables
FindsTables files table anacrontab w before after (Err t) =
    (w ≡ []) × ReadsTables files table anacrontab before after (Err t)

-- the plan is that of such tables as the declarations at a path have it; it has these places and
-- these texts
pub record IsPlanned (files : List ℕ → Option (List ℕ)) (table : Text) (anacrontab : Option Text)
    (declarations : Text) (w : List ℕ) (failed : Failed) (planned : Planned) : Type 0 where
  pub tables : Tables
  pub read : AreTables files table anacrontab w failed tables
  pub plan : ReadsFitting files tables.places (both_of tables) declarations failed failed
      (Ok planned.plan)
  pub text : FittingIn files declarations tables.places (both_of tables) planned.plan
      planned.declarations
  pub same_places : planned.places ≡ tables.places
  pub same_table : planned.table ≡ tables.text

-- both tables and then the declarations, each read in its turn, or the first fault
abbrev pub FindsPlan : (List ℕ → Option (List ℕ)) → Text → Option Text → Text → List ℕ → Failed
    → Failed → Result Planned Trouble → Type 0
FindsPlan files table anacrontab declarations w before after (Ok planned) =
    (after ≡ before) × IsPlanned files table anacrontab declarations w before planned
FindsPlan files table anacrontab declarations w before after (Err t) =
    FindsTables files table anacrontab w before after (Err t)
    ⊎ ((tables : Tables) × AreTables files table anacrontab w before tables
    × ReadsFitting files tables.places (both_of tables) declarations before after (Err t))

-- the files are read, and the answer is that to what they gave, or to the first fault
abbrev pub Answers : {X : Type 0} → (Failed → Failed → Result X Trouble → Type 0)
    → (X → Ending → Type 0) → Failed → Failed → Ending → Type 0
Answers Finds Is before after ending =
    ((t : Trouble) × Finds before after (Err t) × (ending ≡ ends [] t))
    ⊎ ((x : _) × Finds before after (Ok x) × Is x ending)
