use Rattle.std.specs.Prelude.{◌≡◌, ℕ, ◌<◌, ◌≤◌, ◌∷◌, [], IsTrue, true, List, length, map, None, Some, slice_get}
use Rattle.cs_plan.specs.Plan.{Declared, as_plan, crons}
use Rattle.cs_claims.specs.declared.class.Class.{Class}
use Rattle.cs_theorem.specs.Faults.{due_fault}
use Rattle.cs_classes.specs.Claim.{Claimed, as_certificate, class_at}
use Rattle.cs_classes.specs.GroupDays.{AreGroupDays}
use Rattle.cs_classes.specs.Reaches.{Clears}
use Rattle.cs_classes.specs.Said.{said}
use Rattle.cs_history.specs.Plan.{waits}
use Rattle.cs_windows.specs.Occupied.{job_of}
use Rattle.cs_classes.specs.Planned.{due_on, planned}
use Rattle.cs_check.specs.Case.{IsFit}
use Rattle.cs_check.specs.declared.due.Basis.{Basis}
use Rattle.cs_check.specs.declared.class_day.ClassDay.{ClassDay}

-- the classes have the due minutes of their kinds, and the rest is the plan's and the certificate's
pub record IsBasis (b : Basis) : Type 0 where
  pub fit : IsFit b.plan.now (said b.claim.now).reach
  pub due : due_fault (as_plan b.plan.now) (due_on b.plan.now) (as_certificate (said b.claim.now))
      ≡ None
  pub jobs : map job_of b.occupied.items ≡ planned b.plan.now (said b.claim.now).reach
  pub few : length b.occupied.items ≤ 320
  pub nothing : b.none.now ≡ []

-- on a day of the class the job, if it waits and has a reach, has had its lock within the reach
abbrev pub Settles : Declared → Claimed → Class → ℕ → Type 0
Settles d c class j = waits (as_plan d) j ≡ true → (r : ℕ) → (as_certificate c).reach j ≡ Some r
    → Clears (as_plan d) (class ∷ []) j r

abbrev pub Settle : Declared → Claimed → Class → Type 0
Settle d c class = (j : ℕ) → j < crons d → Settles d c class j

-- the locks on a day of the class; if `settles` is true, all jobs that wait settle
pub record IsClassDay (d : Declared) (c : Claimed) (class : ℕ) (day : ClassDay) : Type 0 where
  pub groups : AreGroupDays (as_plan d) (class_at c.classes class) day.groups.items
  pub settles : IsTrue day.settles → Settle d c (class_at c.classes class)

pub record AreClassDays (d : Declared) (c : Claimed) (days : List ClassDay) : Type 0 where
  pub long : length days ≡ length c.classes
  pub each : (class : ℕ) (day : ClassDay) → slice_get days class ≡ Some day
      → IsClassDay d c class day

pub record IsBasisOf (d : Declared) (c : Claimed) (b : Basis) : Type 0 where
  pub basis : IsBasis b
  pub plan : b.plan.now ≡ d
  pub certificate : said b.claim.now ≡ c
