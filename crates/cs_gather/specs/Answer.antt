-- The answer to `gather`.
use Rattle.std.specs.Prelude.{◌≡◌, ◌<◌, ◌≤◌, ◌⊎◌, if◌then◌else◌, ℕ, Bool, true, false, List, [], ◌∷◌, ◌++◌, Option, IfSome, IsSome, codes, length}
use Rattle.cs_args.specs.Asked.{Text}
use Rattle.cs_table.specs.Table.{Found, as_error}
use Rattle.cs_table.specs.declared.fault.TableFault.{TableFault}
use Rattle.cs_table.specs.declared.limits.TheConstants.{MAX_TABLE}
use Rattle.cs_system.specs.declared.fault.SystemFault.{SystemFault}
use Rattle.cs_io.specs.Files.{Failed}
use Rattle.cs_io.specs.Folders.{Tree}
use Rattle.cs_args.specs.Asked.{AskedGather}
use Rattle.cs_files.specs.Response.{Ending, complaint}
use Rattle.cs_files.specs.Trouble.{InGathered, TellsPath, Trouble, ends}
use Rattle.cs_gather.specs.Gather.{Denotes, Gathers, HasFault, IsOverflow, room_behind}
use Rattle.cs_gather.specs.Gathered.{commands_of}
use Rattle.cs_gather.specs.Tables.{AreFound, AreNamed, Given}
use Rattle.cs_gather.specs.declared.gathering.Gathering.{Gathering}
use Rattle.cs_gather.specs.declared.line.Gathered.{Gathered}
use Rattle.cs_gather.specs.declared.table.Table.{Table}

-- ---- what is added

-- the commands so far, and whether no table was ignored
pub record Sum : Type 0 where
  pub commands : List Gathered
  pub is_whole : Bool

abbrev pub nothing : Sum
nothing = record { commands = []; is_whole = true }

abbrev pub sum_of : Gathering → Sum
sum_of gathering =
    record { commands = gathering.commands.items; is_whole = gathering.is_whole }

-- the table of the text adds its commands
abbrev pub AddsText : Given → Sum → Sum → List ℕ → Type 0
AddsText given old more text = (table : Table) × Denotes given.user text table
    × (more.commands ≡ old.commands ++ commands_of given table) × (more.is_whole ≡ old.is_whole)

-- a table below the root folder that has a fault is ignored
abbrev pub IsIgnored : Given → Sum → Sum → List ℕ → Type 0
IsIgnored given old more text = IsSome given.below × (length text ≤ MAX_TABLE)
    × ((fault : Found SystemFault) × HasFault given.user text (as_error fault))
    × (more.commands ≡ old.commands) × (more.is_whole ≡ false)

-- a fault that stops the call: in a table that isn't ignored, or for lack of room
abbrev pub FaultsText : Given → Sum → TableFault SystemFault → List ℕ → Type 0
FaultsText given old fault text =
    (HasFault given.user text fault × (IsSome given.below → MAX_TABLE < length text))
    ⊎ ((table : Table) × Denotes given.user text table
    × IsOverflow text (room_behind old.commands) (commands_of given table) fault)

-- the bytes at the table's path, where they are known, add its commands, or the table is ignored
abbrev pub Adds : (List ℕ → Option (List ℕ)) → Given → Sum → Sum → Type 0
Adds files given old more = IfSome (files given.path)
    (λ text. AddsText given old more text ⊎ IsIgnored given old more text)

abbrev pub AllAdded : (List ℕ → Option (List ℕ)) → List Given → Sum → Sum → Type 0
AllAdded files [] old more = more ≡ old
AllAdded files (given ∷ later) old more =
    (between : Sum) × Adds files given old between × AllAdded files later between more

-- the table can't be read, or it stops the call after the commands so far; lines show the fault
abbrev pub Stops : (List ℕ → Option (List ℕ)) → Failed → Given → Sum → Trouble → Type 0
Stops files failed given old t =
    ((failed given.path ≡ true) × TellsPath given.path t)
    ⊎ ((fault : Found SystemFault) × (lines : List ℕ) × (t ≡ InGathered given.path (fault, lines))
    × IfSome (files given.path) (FaultsText given old (as_error fault)))

-- all tables before this one add their commands, and this one stops the call
abbrev pub FirstStops : (List ℕ → Option (List ℕ)) → Failed → List Given → Sum → Trouble → Type 0
FirstStops files failed [] old t = ⊥
FirstStops files failed (given ∷ later) old t = Stops files failed given old t
    ⊎ ((between : Sum) × Adds files given old between
    × FirstStops files failed later between t)

-- ---- the answer

-- the gathered text doesn't say what was added; no files are known for which this is so
abbrev pub IsNotReadBack : Ending → Type 0
IsNotReadBack ending = (notes : List ℕ) × (ending ≡ record {
  status = 2;
  out = [];
  err = notes ++ complaint (codes "the gathered table reads otherwise than its parts");
})

-- one table of all commands, with status 1 if a table was ignored
abbrev pub ShowsGathered : Sum → Ending → Type 0
ShowsGathered sum ending =
    ((ending.status ≡ (if sum.is_whole then 0 else 1)) × Gathers ending.out sum.commands)
    ⊎ IsNotReadBack ending

-- the answer is that of a fault, after notes
abbrev pub EndsFor : Trouble → Ending → Type 0
EndsFor t ending = (notes : List ℕ) × (ending ≡ ends notes t)

-- all tables are gathered, or the first that stops the call is reported
abbrev pub GathersAll : (List ℕ → Option (List ℕ)) → Failed → List Given → Ending → Type 0
GathersAll files failed tables ending =
    ((sum : Sum) × AllAdded files tables nothing sum × ShowsGathered sum ending)
    ⊎ ((t : Trouble) × FirstStops files failed tables nothing t × EndsFor t ending)

-- a root folder is given and has no tables below it
abbrev pub IsBare : Option Text → List Given → Type 0
IsBare root found = IsSome root × (found ≡ [])

-- The tables below the root and then those of the words are gathered, unless none is below the
-- root; or something at the root can't be read.
abbrev pub AnswersGather : AskedGather → Tree → (List ℕ → Option (List ℕ)) → Failed → Ending
    → Type 0
AnswersGather a tree files failed ending =
    ((found : List Given) × AreFound tree a.root found
    × ((IsBare a.root found × (ending.status ≡ 1) × (ending.out ≡ []))
    ⊎ (¬ (IsBare a.root found) × ((named : List Given) × AreNamed a named
    × GathersAll files failed (found ++ named) ending))))
    ⊎ (IsSome a.root × ((path : Text) × (t : Trouble) × TellsPath path t × EndsFor t ending))
