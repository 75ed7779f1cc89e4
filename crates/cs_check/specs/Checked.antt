use Rattle.std.specs.Prelude.{◌≡◌, ℕ, ◌≤◌, Option, Some, ⊤, length}
use Rattle.std.specs.List.{AllByRecursion}
use Rattle.cs_plan.specs.Plan.{Declared, as_plan}
use Rattle.cs_claims.specs.Content.{Content}
use Rattle.cs_claims.specs.Certificate.{content}
use Rattle.cs_check.specs.declared.checked.Checked.{Checked}
use Rattle.cs_history.specs.Plan.{Plan, IsReached}
use Rattle.cs_history.specs.Calm.{Holds, IsCalm, window_of}
use Rattle.cs_history.specs.History.{History, now, running, IsLegal, IsInTime, IsSafe}
use Rattle.cs_theorem.specs.Accepted.{IsLength}
use Rattle.cs_theorem.specs.Faults.{Fault}
use Rattle.cs_classes.specs.Planned.{due_on}
use Rattle.cs_check.specs.Case.{IsAcceptedWith, reach_for}
use Rattle.cs_theorem.specs.Told.{told}
use Rattle.cs_check.specs.declared.fault.CheckError.{CheckError}
use Rattle.cs_check.specs.declared.fault.CheckError.TheVariants as errors

abbrev pub plan_in : Checked → Declared
plan_in c = c.plan

abbrev pub certificate_in : Checked → Content
certificate_in c = content c.certificate

-- every legal history in which each run ends within its declared time is safe: no two runs of an
-- exclusive group run at once, unless both hold its lock shared; the capacity is never exceeded;
-- and no due minute of a skip job is skipped
abbrev pub IsHeadline : Plan → Type 0
IsHeadline p = (h : History) → IsLegal p h → IsInTime p h → IsSafe p h

-- in every such history each running run is in its window
abbrev pub StayInWindows : Plan → (ℕ → ℕ) → Type 0
StayInWindows p c = (h : History) → IsLegal p h → IsInTime p h
    → AllByRecursion (λ r. Holds p c (now h) (window_of p r)) (running p h)

-- each minute that a history may reach is calm
abbrev pub IsCalmThroughout : Plan → (ℕ → ℕ) → Type 0
IsCalmThroughout p c = (t : ℕ) → IsReached t → IsCalm p c t

-- the error is this fault, or out of memory
abbrev pub Tells : Option Fault → CheckError → Type 0
Tells o (errors.Fault f) = o ≡ Some (told f)
Tells o errors.OutOfMemory = ⊤

-- a fault is answered only if the eight rules don't all hold
abbrev pub IsBroken : Declared → Content → CheckError → Type 0
IsBroken d c (errors.Fault f) = IsAcceptedWith d c → ⊥
IsBroken d c errors.OutOfMemory = ⊤

-- the length of the stretches: the smallest of 2, 3, 4 days that no window outlasts
abbrev pub IsLengthFor : Declared → Content → ℕ → Type 0
IsLengthFor d c n = IsLength (as_plan d) (due_on d) (reach_for d c) n

-- in every such history at most as many runs run at once as the capacity
abbrev pub AreFew : Plan → Type 0
AreFew p = (h : History) → IsLegal p h → IsInTime p h → length (running p h) ≤ p.capacity
