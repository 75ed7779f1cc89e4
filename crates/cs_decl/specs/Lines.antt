-- What a plan has of the lines of a crontab.
use Rattle.std.specs.Prelude.{◌≡◌, ◌⊎◌, ◌++◌, ◌<◌, ℕ, List, [], ◌∷◌, map, Some, None, true, false, All, Contains, IfSome, IsSome, bytes_eq, unsigned_abs, Bool, None}
use Rattle.std.specs.List.{count_by}
use Rattle.cs_crontab.specs.Crontab.{CommandLine}
use Rattle.cs_history.specs.declared.mode.Mode.TheVariants.{Plain}
use Rattle.cs_decl.specs.declared.entries.LineName.{LineName}
use Rattle.cs_decl.specs.declared.entries.CronEntry.{CronEntry}
use Rattle.cs_decl.specs.declared.entries.DefaultEntry.{DefaultEntry}
use Rattle.cs_decl.specs.declared.entries.Entries.{Entries}
use Rattle.cs_plan.specs.Job.{DeclaredJob}
use Rattle.cs_decl.specs.Join.{is_named, names_line, group_place}
use Rattle.cs_decl.specs.When.{is_told_when}

-- the line names of all entries
abbrev pub names_of : Entries → List LineName
names_of d = map (λ e. e.name) d.cron ++ d.left_out

-- if it names the line, it gives that line's command or none, and its schedule or none
abbrev pub TellsOf : LineName → CommandLine → Type 0
TellsOf name line = is_named name line ≡ true
    → IfSome name.command (λ told. told ≡ line.command)
    × (is_told_when name.when line.when ≡ true)

-- it would name the line by its command and schedule, whatever its number
abbrev pub is_told : LineName → CommandLine → Bool
is_told name = names_line None name.command name.when

-- an entry names the line, gives a command and no schedule, and other lines have the same command
abbrev pub IsUntimed : Entries → List CommandLine → CommandLine → Type 0
IsUntimed d lines line = (name : LineName) × Contains (names_of d) name
    × (is_named name line ≡ true) × IsSome name.command × (name.when ≡ None)
    × (1 < count_by (λ other. bytes_eq other.command line.command) lines)

-- an entry of `left_out` names the line
abbrev pub IsLeftOut : Entries → CommandLine → Type 0
IsLeftOut d line = (name : LineName) × Contains d.left_out name × (is_named name line ≡ true)

abbrev pub IsKept : Entries → CommandLine → Type 0
IsKept d line = All (λ name. is_named name line ≡ false) d.left_out

abbrev pub HasNoEntry : Entries → CommandLine → Type 0
HasNoEntry d line = All (λ e. is_named e.name line ≡ false) d.cron

-- of the lines, in order, each is left out and has its number listed, or is kept
abbrev pub AreParted : Entries → List CommandLine → List CommandLine → List ℕ → Type 0
AreParted d [] kept numbers = (kept ≡ []) × (numbers ≡ [])
AreParted d (line ∷ lines) kept numbers =
    (IsLeftOut d line × (more : List ℕ) × (numbers ≡ line.number ∷ more)
    × AreParted d lines kept more)
    ⊎ (IsKept d line × (more : List CommandLine) × (kept ≡ line ∷ more)
    × AreParted d lines more numbers)

-- an entry that names the line declares the job
abbrev pub HasEntry : Entries → CommandLine → DeclaredJob → Type 0
HasEntry d line job = (e : CronEntry) × Contains d.cron e × (is_named e.name line ≡ true)
    × (job.max ≡ unsigned_abs e.max) × (job.weight ≡ unsigned_abs e.weight)
    × (job.group ≡ group_place d.groups e.group) × (job.mode ≡ e.mode)

abbrev pub HasDefault : Entries → DeclaredJob → Type 0
HasDefault d job = (e : DefaultEntry) × (d.default ≡ Some e)
    × (job.max ≡ unsigned_abs e.max) × (job.weight ≡ unsigned_abs e.weight)
    × (job.group ≡ None) × (job.mode ≡ Plain)

-- the job of a line is that of an entry; without one it has the default
abbrev pub IsDeclared : Entries → CommandLine → DeclaredJob → Type 0
IsDeclared d line job = HasEntry d line job ⊎ (HasNoEntry d line × HasDefault d job)
