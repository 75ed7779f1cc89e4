-- Which files their readers refuse.
use Rattle.std.specs.Prelude.{◌≡◌, ◌≤◌, ◌⊎◌, ℕ, List, Option, Some, None, Result, Ok, Err}
use Rattle.cs_table.specs.Table.{Found}
use Rattle.cs_crontab.specs.Crontab.{Table}
use Rattle.cs_crontab.specs.Faults.{Means}
use Rattle.cs_crontab.specs.declared.fault.LineFault.{LineFault}
use Rattle.cs_anacrontab.specs.Anacrontab.{Table as JobTable, no_lines as no_jobs}
use Rattle.cs_anacrontab.specs.Faults.{Means as MeansJobs}
use Rattle.cs_anacrontab.specs.declared.fault.JobFault.{JobFault}
use Rattle.cs_plan.specs.Answers.{Fault}
use Rattle.cs_decl.specs.Join.{joined}
use Rattle.cs_decl.specs.Meaning.{declared_by}
use Rattle.cs_plan.specs.Plan.{Declared}
use Rattle.cs_decl.specs.declared.entries.Entries.{Entries}
use Rattle.cs_diagnostics.specs.declared.findings.FirstFault.{FirstFault}
use Rattle.cs_lint.specs.declared.refusal.Refusal.{Refusal}

-- what an anacrontab means; without one there are no jobs
abbrev pub MeansSome : Option (List ℕ) → Result JobTable (Found JobFault) → Type 0
MeansSome None read = read ≡ Ok no_jobs
MeansSome (Some text) read = MeansJobs text read

-- the declarations have a fault, by themselves or beside the tables
abbrev pub HasNoPlan : Table → JobTable → Option (List ℕ) → Type 0
HasNoPlan table jobs None = ⊥
HasNoPlan table jobs (Some text) = (fault : Fault) × ((declared_by text ≡ Err fault)
    ⊎ ((d : Entries) × (declared_by text ≡ Ok d) × (joined table jobs d ≡ Err fault)))

-- there are none, or they make a plan of the tables
abbrev pub HasPlan : Table → JobTable → Option (List ℕ) → Type 0
HasPlan table jobs None = Unit {0}
HasPlan table jobs (Some text) =
    (d : Entries) × (plan : Declared) × (declared_by text ≡ Ok d) × (joined table jobs d ≡ Ok plan)

-- A table has a fault, or the declarations have one beside tables that have none.
abbrev pub AreRefused : List ℕ → Option (List ℕ) → Option (List ℕ) → Type 0
AreRefused table jobs declarations =
    ((fault : Found LineFault) × Means table (Err fault))
    ⊎ (((fault : Found JobFault) × MeansSome jobs (Err fault))
    ⊎ ((t : Table) × (j : JobTable) × Means table (Ok t) × MeansSome jobs (Ok j)
    × HasNoPlan t j declarations))

-- No file has a fault.
abbrev pub AreTaken : List ℕ → Option (List ℕ) → Option (List ℕ) → Type 0
AreTaken table jobs declarations =
    (t : Table) × (j : JobTable) × Means table (Ok t) × MeansSome jobs (Ok j)
    × HasPlan t j declarations

-- The status is 3 exactly where the readers refuse the files, else 0 or 1.
abbrev pub Judges : ℕ → List ℕ → Option (List ℕ) → Option (List ℕ) → Type 0
Judges status table jobs declarations = ((status ≡ 3) × AreRefused table jobs declarations)
    ⊎ ((status ≤ 1) × AreTaken table jobs declarations)

-- ---- the same of the readers' results

abbrev pub Finds : Result (Option Declared) Refusal → List ℕ → Option (List ℕ)
    → Option (List ℕ) → Type 0
Finds (Ok plan) table jobs declarations = AreTaken table jobs declarations
Finds (Err refusal) table jobs declarations = AreRefused table jobs declarations

abbrev pub FindsPlan : Result Declared FirstFault → Table → JobTable → List ℕ → Type 0
FindsPlan (Ok plan) table jobs text = HasPlan table jobs (Some text)
FindsPlan (Err first) table jobs text = HasNoPlan table jobs (Some text)

abbrev pub FindsJobs : Result JobTable FirstFault → Option (List ℕ) → Type 0
FindsJobs (Ok jobs) text = MeansSome text (Ok jobs)
FindsJobs (Err first) text = (fault : Found JobFault) × MeansSome text (Err fault)

abbrev pub FindsTable : Result Table FirstFault → List ℕ → Type 0
FindsTable (Ok table) text = Means text (Ok table)
FindsTable (Err first) text = (fault : Found LineFault) × Means text (Err fault)
