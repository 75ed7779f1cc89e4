-- What is read file after file, until a fault ends the call.
use Rattle.std.specs.Prelude.{◌≡◌, ◌⊎◌, ℕ, not, ◌&&◌, ◌==◌, length, Bool, true, false, List, [], Option, Some, None, IfSome, Result}
use Rattle.std.specs.Prelude.{Ok, Err}
use Rattle.std.specs.Char.{is_ascii_alphabetic}
use Rattle.std.specs.List.{list_all, list_any}
use Rattle.std.specs.Result.{result_map_both}
use Rattle.clap.specs.Words.{Text}
use Rattle.cs_table.specs.Table.{Found as FoundIn}
use Rattle.cs_crontab.specs.Crontab.{Table}
use Rattle.cs_crontab.specs.declared.fault.LineFault.{LineFault}
use Rattle.cs_crontab.specs.Faults.{IsCrontab, Means}
use Rattle.cs_anacrontab.specs.Anacrontab.{JobLine, Table as JobTable, no_lines as no_jobs}
use Rattle.cs_anacrontab.specs.Faults.{Means as MeansJobs}
use Rattle.cs_anacrontab.specs.declared.fault.JobFault.{JobFault}
use Rattle.cs_place.specs.Places.{places_of}
use Rattle.cs_place.specs.declared.places.Place.{Place}
use Rattle.cs_plan.specs.Answers.{Fault as DeclaredFault}
use Rattle.cs_decl.specs.Join.{joined}
use Rattle.cs_decl.specs.Meaning.{declared_by}
use Rattle.cs_plan.specs.Plan.{Declared}
use Rattle.cs_decl.specs.declared.entries.Entries.{Entries}
use Rattle.cs_io.specs.Files.{Failed, IsReadOut, IsTooLong, IsUpTo, Reads}
use Rattle.cs_files.specs.Fitting.{fitting}
use Rattle.cs_files.specs.Trouble.{InAnacrontab, InCrontab, InDeclarations, TellsPath, Trouble}
use Rattle.cs_files.specs.Trouble.{trouble}
use Rattle.cs_files.specs.declared.fault.Fault.{Fault}

-- Each step says of which paths reads had failed before it, of which they have after it, and what
-- it gave.

-- the file at a path means a value; or it could not be read, or has a fault. Where its bytes are
-- not known nothing is said of their meaning.
abbrev pub ReadsAs : {M F : Type 0} → (List ℕ → Option (List ℕ)) → Text
    → (List ℕ → Result M F → Type 0) → (F → Trouble) → Failed → Failed → Result M Trouble → Type 0
ReadsAs files path means told before after (Ok m) =
    (after ≡ before) × IfSome (files path) (λ bytes. means bytes (Ok m))
ReadsAs files path means told before after (Err t) =
    ((after path ≡ true) × TellsPath path t)
    ⊎ ((after ≡ before)
    × ((fault : _) × (t ≡ told fault) × IfSome (files path) (λ bytes. means bytes (Err fault))))

-- nothing is read, and this is given
abbrev pub Gives : {X : Type 0} → Result X Trouble → Failed → Failed → Result X Trouble → Type 0
Gives given before after r = (after ≡ before) × (r ≡ given)

-- nothing is read, and something is given of which this holds
abbrev pub GivesSome : {X : Type 0} → (X → Type 0) → Failed → Failed → Result X Trouble → Type 0
GivesSome R before after r = (after ≡ before) × ((x : _) × R x × (r ≡ Ok x))

-- one step, and then another on what it gave; the first fault ends the call
abbrev pub AndThen : {X Y : Type 0} → (Failed → Failed → Result X Trouble → Type 0)
    → (X → Failed → Failed → Result Y Trouble → Type 0) → Failed → Failed → Result Y Trouble
    → Type 0
AndThen first next before after r =
    ((t : Trouble) × first before after (Err t) × (r ≡ Err t))
    ⊎ ((x : _) × first before before (Ok x) × next x before after r)

-- there are jobs, the identifier of each with a letter, as no day of a crontab's line has
abbrev pub are_named : List JobLine → Bool
are_named lines = not (length lines == 0)
    && list_all (λ line. list_any is_ascii_alphabetic line.identifier) lines

-- the text is, or isn't, that of an anacrontab with such jobs
abbrev pub HoldsJobs : List ℕ → Bool → Type 0
HoldsJobs text true =
    (jobs : JobTable) × MeansJobs text (Ok jobs) × (are_named jobs.lines ≡ true)
HoldsJobs text false =
    (jobs : JobTable) → MeansJobs text (Ok jobs) → are_named jobs.lines ≡ false

-- a text denotes a crontab; or it has a first fault, and may be that of an anacrontab
abbrev pub MeansTable : List ℕ → Result Table ((FoundIn LineFault × Bool) × List ℕ) → Type 0
MeansTable text (Ok table) = Means text (Ok table)
MeansTable text (Err ((fault, are_jobs), lines)) = Means text (Err fault) × HoldsJobs text are_jobs

abbrev pub MeansJobTable : List ℕ → Result JobTable (FoundIn JobFault × List ℕ) → Type 0
MeansJobTable text (Ok jobs) = MeansJobs text (Ok jobs)
MeansJobTable text (Err (fault, lines)) = MeansJobs text (Err fault)

abbrev pub ReadsJobs : (List ℕ → Option (List ℕ)) → Option Text → Failed → Failed
    → Result JobTable Trouble → Type 0
ReadsJobs files None = Gives (Ok no_jobs)
ReadsJobs files (Some path) = ReadsAs files path MeansJobTable InAnacrontab

abbrev pub ReadsTables : (List ℕ → Option (List ℕ)) → Text → Option Text → Failed → Failed
    → Result (Table × JobTable) Trouble → Type 0
ReadsTables files table anacrontab = AndThen (ReadsAs files table MeansTable InCrontab)
    (λ t. AndThen (ReadsJobs files anacrontab) (λ jobs. Gives (Ok (t, jobs))))

-- what was read, without what comes beside it
abbrev pub without_rest : {X R E : Type 0} → Result (X × R) E → Result X E
without_rest found = result_map_both (λ x. x.0) (λ e. e) found

-- this text denotes the table, and the file at a path holds it
abbrev pub TextIn : (List ℕ → Option (List ℕ)) → Text → Table → List ℕ → Type 0
TextIn files path table text = IsCrontab text table × IfSome (files path) (λ bytes. text ≡ bytes)

-- these are the places of the table that the file at a path holds
abbrev pub PlacesIn : (List ℕ → Option (List ℕ)) → Text → Table → List Place → Type 0
PlacesIn files path table places = IfSome (files path) (λ bytes. places ≡ places_of bytes table)

-- a plan, or the fault for which there is none
abbrev pub planned : Result Declared DeclaredFault → Result Declared Trouble
planned plan = result_map_both (λ p. p) (λ fault. InDeclarations (fault, [])) plan

-- nothing is read, and a plan is made, or the fault of the declarations is given
abbrev pub Makes : Result Declared DeclaredFault → Failed → Failed → Result Declared Trouble → Type 0
Makes (Ok plan) before after r = (after ≡ before) × (r ≡ Ok plan)
Makes (Err fault) before after r =
    (after ≡ before) × ((lines : List ℕ) × (r ≡ Err (InDeclarations (fault, lines))))

abbrev pub MeansEntries : List ℕ → Result Entries (DeclaredFault × List ℕ) → Type 0
MeansEntries text (Ok d) = declared_by text ≡ Ok d
MeansEntries text (Err (fault, lines)) = declared_by text ≡ Err fault

-- the declarations at a path: of any length, but of no more reads than a path may take
abbrev pub ReadsEntries : (List ℕ → Option (List ℕ)) → Text → Failed → Failed
    → Result Entries Trouble → Type 0
ReadsEntries files path before after r =
    ReadsAs files path MeansEntries InDeclarations before after r
    ⊎ ((after ≡ before) × IsTooLong path files
    × ((t : Trouble) × TellsPath path t × (r ≡ Err t)))

-- this text is declarations by which both tables, of which the crontab has these places, make the
-- plan, and the file at a path holds it
abbrev pub FittingIn : (List ℕ → Option (List ℕ)) → Text → List Place → Table × JobTable → Declared
    → List ℕ → Type 0
FittingIn files path places tables plan text =
    ((d : Entries) × (declared_by text ≡ Ok d) × (fitting places tables d ≡ Ok plan))
    × IfSome (files path) (λ bytes. text ≡ bytes)

abbrev pub ReadsPlan : (Entries → Result Declared DeclaredFault) → (List ℕ → Option (List ℕ))
    → Text → Failed → Failed → Result Declared Trouble → Type 0
ReadsPlan made files path = AndThen (ReadsEntries files path) (λ d. Makes (made d))

-- the plan of both tables as the declarations at a path have it
abbrev pub ReadsDeclared : (List ℕ → Option (List ℕ)) → Table × JobTable → Text → Failed → Failed
    → Result Declared Trouble → Type 0
ReadsDeclared files tables = ReadsPlan (joined tables.0 tables.1) files

-- and so where the crontab has these places, of which entries have the parts
abbrev pub ReadsFitting : (List ℕ → Option (List ℕ)) → List Place → Table × JobTable → Text → Failed
    → Failed → Result Declared Trouble → Type 0
ReadsFitting files places tables = ReadsPlan (fitting places tables) files

-- bytes mean the value that is given, or have the fault that is reported
abbrev pub MeansIt : {M F : Type 0} → (List ℕ → Result M F → Type 0) → (F → Trouble) → List ℕ
    → Result M Fault → Type 0
MeansIt means told bytes (Ok m) = means bytes (Ok m)
MeansIt means told bytes (Err e) =
    IfSome (trouble e) (λ t. (fault : _) × (t ≡ told fault) × means bytes (Err fault))

-- this path could not be read
abbrev pub IsUnreadAt : Text → Failed → Fault → Type 0
IsUnreadAt path failed e = IfSome (trouble e) (λ t. (failed path ≡ true) × TellsPath path t)

-- or it took as many reads as it may
abbrev pub IsUnreadWhole : Text → (List ℕ → Option (List ℕ)) → Failed → Failed → Reads → Reads
    → Fault → Type 0
IsUnreadWhole path left before after old new e = IfSome (trouble e) (λ t. TellsPath path t
    × ((after path ≡ true)
    ⊎ ((after ≡ before) × IsReadOut path old new × IsTooLong path left)))

-- bs is what was left of this path, where that is known, or both are longer than a limit
abbrev pub IsRead : ℕ → Text → (List ℕ → Option (List ℕ)) → List ℕ → Type 0
IsRead limit path left bs = IfSome (left path) (λ text. IsUpTo limit text bs)
