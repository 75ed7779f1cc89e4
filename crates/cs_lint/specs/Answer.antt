-- The answer to `lint`.
use Rattle.std.specs.Prelude.{◌≡◌, ◌≢◌, ◌≤◌, ◌<◌, ◌⊎◌, ◌==◌, ◌++◌, ℕ, false, true, List, [], Option, Some, None, IfSome}
use Rattle.std.specs.Prelude.{Contains, IsErr, is_none, is_some, length}
use Rattle.std.specs.List.{find, list_any, slice_split}
use Rattle.cs_args.specs.Asked.{Text}
use Rattle.jiff_tz.specs.Tzif.{HasBadRule}
use Rattle.jiff_tz.specs.TzifReader.{read_tzif}
use Rattle.cs_table.specs.declared.limits.TheConstants.{MAX_TABLE}
use Rattle.cs_explain.specs.Odd.{odd_named}
use Rattle.cs_args.specs.Asked.{AskedLint}
use Rattle.cs_io.specs.Files.{Failed, IsUpTo}
use Rattle.cs_lint.specs.Refused.{Judges}
use Rattle.cs_files.specs.Response.{Ending}
use Rattle.cs_files.specs.Trouble.{NoTimeZone, TellsPath, Trouble, ends, trouble}
use Rattle.cs_files.specs.declared.fault.Fault.{Fault}

-- R holds of the text at a path, or of no text without a path; nothing is said of a file whose
-- bytes are unknown
abbrev pub IfKnown : (List ℕ → Option (List ℕ)) → Option Text → (Option (List ℕ) → Type 0) → Type 0
IfKnown files None R = R None
IfKnown files (Some path) R = IfSome (files path) (λ text. R (Some text))

-- the same of all files of a call
abbrev pub IfAllKnown : (List ℕ → Option (List ℕ)) → AskedLint
    → (List ℕ → Option (List ℕ) → Option (List ℕ) → Type 0) → Type 0
IfAllKnown files a R = IfSome (files a.table) (λ table. IfKnown files a.anacrontab (λ jobs.
    IfKnown files a.declarations (λ declarations. R table jobs declarations)))

-- findings go to standard output alone, and the status judges the files
abbrev pub IsLinted : List ℕ → Option (List ℕ) → Option (List ℕ) → Ending → Type 0
IsLinted table jobs declarations ending =
    (ending.err ≡ []) × Judges ending.status table jobs declarations

-- longer than a table may be
abbrev pub IsLong : Option (List ℕ) → Type 0
IsLong None = ⊥
IsLong (Some text) = MAX_TABLE < length text

abbrev pub IsShort : Option (List ℕ) → Type 0
IsShort text = IfSome text (λ bytes. length bytes ≤ MAX_TABLE)

-- R holds where no table is too long
abbrev pub IfShort : (List ℕ → Option (List ℕ)) → AskedLint → Type 0 → Type 0
IfShort files a R = IfSome (files a.table) (λ table. length table ≤ MAX_TABLE
    → IfKnown files a.anacrontab (λ jobs. IsShort jobs → R))

-- not a time zone file: too long, not of its format, or its rule disagrees with its table
abbrev pub IsNoZone : List ℕ → Type 0
IsNoZone text =
    (MAX_TABLE < length text) ⊎ (IsErr (read_tzif text) ⊎ HasBadRule (read_tzif text))

-- the first name in a word, with commas between them, that no odd finding has; letter case is
-- ignored
abbrev pub no_name_in : Text → Option Text
no_name_in word = find (λ name. is_none (odd_named name)) (slice_split (λ b. b == 44) word)

-- each name in the words is that of an odd finding
abbrev pub AreNamed : List Text → Type 0
AreNamed words = list_any (λ word. is_some (no_name_in word)) words ≡ false

-- the name is in a word, and no odd finding has it
abbrev pub IsNoName : List Text → Text → Type 0
IsNoName words name = (word : Text) × Contains words word × (no_name_in word ≡ Some name)

-- such a name is in the words, and the status is 4
abbrev pub IsNoNameIn : List Text → Ending → Type 0
IsNoNameIn words ending =
    (name : Text) × IsNoName words name × (ending.status ≡ 4) × (ending.out ≡ [])

abbrev pub TellsZone : Option Text → Trouble → Type 0
TellsZone path t = (zone : Text) × (path ≡ Some zone) × (t ≡ NoTimeZone zone)

-- the file at the zone's path, where its bytes are known, is not a time zone file
abbrev pub HasNoZone : (List ℕ → Option (List ℕ)) → Option Text → Type 0
HasNoZone files path = IfKnown files path (λ zone. IfSome zone IsNoZone)

-- the answer names a file that can't be read, or one that is not a time zone file
abbrev pub IsUnreadable : AskedLint → (List ℕ → Option (List ℕ)) → Failed → Failed → Trouble
    → Type 0
IsUnreadable a files before after t = ((path : Text) × TellsPath path t)
    ⊎ ((after ≡ before) × TellsZone a.zone t × IfShort files a (HasNoZone files a.zone))

-- The answer is the findings: the status is 3 exactly where the readers refuse the files, and not 1
-- where only faults are asked for. Or the answer names a file that can't be read, or one that is
-- not a time zone file.
abbrev pub LintsFiles : AskedLint → (List ℕ → Option (List ℕ)) → Failed → Failed → Ending
    → Type 0
LintsFiles a files before after ending =
    ((after ≡ before) × (ending.err ≡ []) × IfAllKnown files a (Judges ending.status)
    × (a.faults_only ≡ true → ending.status ≢ 1))
    ⊎ ((t : Trouble) × IsUnreadable a files before after t × (ending ≡ ends [] t))

-- A name that no odd finding has ends the call with status 4, before a file is read. Else the files
-- are linted.
abbrev pub AnswersLint : AskedLint → (List ℕ → Option (List ℕ)) → Failed → Failed → Ending
    → Type 0
AnswersLint a files before after ending =
    ((after ≡ before) × IsNoNameIn (a.only ++ a.except) ending)
    ⊎ (AreNamed a.only × AreNamed a.except × LintsFiles a files before after ending)

abbrev pub IsUnreadFile : Fault → Type 0
IsUnreadFile fault = IfSome (trouble fault) (λ t. (path : Text) × TellsPath path t)

-- the file of the time zone can't be read, or is not a time zone file
abbrev pub IsUnreadZone : Option Text → Failed → Failed → Fault → Type 0
IsUnreadZone path before after fault = IfSome (trouble fault)
    (λ t. ((unread : Text) × TellsPath unread t) ⊎ ((after ≡ before) × TellsZone path t))

-- a file is said to be no time zone file only if it is none
abbrev pub IsTrueOf : (List ℕ → Option (List ℕ)) → Option Text → Fault → Type 0
IsTrueOf files path fault =
    IfSome (trouble fault) (λ t. TellsZone path t → HasNoZone files path)

-- what was read is the text, or both are longer than a table may be
abbrev pub IsSomeUpTo : Option (List ℕ) → Option (List ℕ) → Type 0
IsSomeUpTo held text = (held ≡ text) ⊎ (IsLong held × IsLong text)

-- what was read of the tables; after a crontab that is too long, the anacrontab may be any
abbrev pub AreHeldTables : AskedLint → (List ℕ → Option (List ℕ)) → List ℕ → Option (List ℕ)
    → Type 0
AreHeldTables a files table jobs =
    IfSome (files a.table) (λ text. IsUpTo MAX_TABLE text table)
    × (length table ≤ MAX_TABLE → IfKnown files a.anacrontab (IsSomeUpTo jobs))

-- what was read of all files
abbrev pub AreHeld : AskedLint → (List ℕ → Option (List ℕ)) → List ℕ → Option (List ℕ)
    → Option (List ℕ) → Type 0
AreHeld a files table jobs declarations = AreHeldTables a files table jobs
    × (length table ≤ MAX_TABLE → IsShort jobs
    → IfKnown files a.declarations (λ text. declarations ≡ text))
