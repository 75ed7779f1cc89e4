-- The answer to `draft`.
use Rattle.std.specs.Prelude.{◌≡◌, ◌⊎◌, ℕ, ℤ, Bool, true, false, List, [], All, Option, Some, None}
use Rattle.std.specs.Prelude.{option_map, IfSome, Result, Ok, Err}
use Rattle.std.specs.Result.{result_map_both}
use Rattle.clap.specs.Words.{Text}
use Rattle.cs_crontab.specs.Crontab.{CommandLine, Table}
use Rattle.cs_anacrontab.specs.Anacrontab.{JobLine, Table as JobTable}
use Rattle.cs_place.specs.declared.places.Place.{Place}
use Rattle.cs_plan.specs.Plain.{is_possible_max}
use Rattle.cs_decl.specs.declared.entries.Entries.{Entries}
use Rattle.cs_draft.specs.Draft.{IsUpdate, Warn, draft_base}
use Rattle.cs_args.specs.Asked.{AskedDraft}
use Rattle.cs_args.specs.declared.question.WordFault.TheVariants.{BadMax}
use Rattle.cs_io.specs.Files.{Failed, IsTooLong}
use Rattle.cs_files.specs.Asked.{Answers, FindsTables}
use Rattle.cs_files.specs.Reads.{AndThen, Gives, GivesSome, ReadsEntries}
use Rattle.cs_files.specs.Response.{Ending}
use Rattle.cs_files.specs.Trouble.{InWords, TellsPath, Trouble}
use Rattle.cs_retrace.specs.Maxes.{given_in, has_job}
use Rattle.cs_retrace.specs.declared.maxes.Given.{Given}
use Rattle.cs_draft.specs.declared.answer.Draftable.{Draftable}

-- the text is printed, or none is, with status 2
abbrev pub IsPrinted : (List ℕ → Type 0) → Ending → Type 0
IsPrinted Is ending =
    ((ending.status ≡ 0) × Is ending.out) ⊎ ((ending.status ≡ 2) × (ending.out ≡ []))

-- the same of an update of old declarations with these longest times, with warnings on standard
-- error
abbrev pub PrintsUpdate : Table → JobTable → List Place → Entries → ℕ → List Given → Ending → Type 0
PrintsUpdate table jobs places old max given ending = IsPrinted
    (λ out. IsUpdate table jobs places old max given out × Warn table jobs old out ending.err) ending

-- the declarations that are updated, or what a draft is an update of
abbrev pub updated : List CommandLine → ℤ → Option (List ℕ) → Option Entries → Entries
updated lines offset rule None = draft_base lines offset rule
updated lines offset rule (Some old) = old

abbrev pub IsRefused : Ending → Type 0
IsRefused ending = (ending.status ≡ 3) × (ending.out ≡ [])

-- the tables have the job of this longest time
abbrev pub IsOfTables : List CommandLine → List JobLine → Given → Type 0
IsOfTables lines jobs g = has_job lines jobs g.name ≡ true

-- A text of longest times that has a fault, or that names a job which the tables don't have, is
-- refused.
abbrev pub PrintsTimed : Table → JobTable → List Place → Entries → ℕ → Option (List Given) → Ending
    → Type 0
PrintsTimed table jobs places old max None ending = IsRefused ending
PrintsTimed table jobs places old max (Some given) ending =
    ((All (IsOfTables table.lines jobs.lines) given → ⊥) × IsRefused ending)
    ⊎ (All (IsOfTables table.lines jobs.lines) given
    × PrintsUpdate table jobs places old max given ending)

abbrev pub PrintsDraft : ℕ → ℤ → Option (List ℕ) → Draftable → Ending → Type 0
PrintsDraft max offset zone x = PrintsTimed x.tables.crontab x.tables.jobs x.tables.places
    (updated x.tables.crontab.lines offset zone (option_map (λ p. p.0) x.old)) max
    (given_in x.maxes)

abbrev pub ReadsOld : (List ℕ → Option (List ℕ)) → Option Text → Failed → Failed
    → Result (Option Entries) Trouble → Type 0
ReadsOld files None = Gives (Ok None)
ReadsOld files (Some path) = AndThen (ReadsEntries files path) (λ old. Gives (Ok (Some old)))

-- the text at a path; an empty one without a path
abbrev pub ReadsText : (List ℕ → Option (List ℕ)) → Option Text → Failed → Failed
    → Result (List ℕ) Trouble → Type 0
ReadsText files None before after r = (after ≡ before) × (r ≡ Ok [])
ReadsText files (Some path) before after (Ok text) =
    (after ≡ before) × IfSome (files path) (λ bytes. text ≡ bytes)
ReadsText files (Some path) before after (Err t) =
    TellsPath path t × ((after path ≡ true) ⊎ ((after ≡ before) × IsTooLong path files))

-- Reads the tables, the old declarations and the longest times, in this order. An impossible --max
-- ends the call before a file is read.
abbrev pub FindsBy : Bool → AskedDraft → (List ℕ → Option (List ℕ)) → List ℕ → Failed → Failed
    → Result Draftable Trouble → Type 0
FindsBy false a files w before after r =
    (w ≡ []) × (after ≡ before) × (r ≡ Err (InWords BadMax))
FindsBy true a files w before after r = AndThen (FindsTables files a.table a.anacrontab w)
    (λ tables. AndThen (ReadsOld files a.update) (λ old. AndThen (ReadsText files a.maxes)
    (λ text. GivesSome (λ x. (x.tables ≡ tables) × (option_map (λ p. p.0) x.old ≡ old)
    × (x.maxes ≡ text))))) before after r

abbrev pub FindsDraftable : AskedDraft → (List ℕ → Option (List ℕ)) → List ℕ → Failed → Failed
    → Result Draftable Trouble → Type 0
FindsDraftable a = FindsBy (is_possible_max a.max) a

-- the draft is printed, or the first fault of the words and the files
abbrev pub AnswersDraft : AskedDraft → ℤ → Option (List ℕ) → (List ℕ → Option (List ℕ)) → List ℕ
    → Failed → Failed → Ending → Type 0
AnswersDraft a offset zone files w =
    Answers (FindsDraftable a files w) (PrintsDraft a.max offset zone)

-- without the bytes
abbrev pub entries_in : {X E : Type 0} → Result (Option (Entries × X)) E → Result (Option Entries) E
entries_in found = result_map_both (option_map (λ p. p.0)) (λ e. e) found
