-- What a class has for the lock of a group on its days, without the days before and after.
use Rattle.std.specs.Prelude.{◌≡◌, ℕ, ◌+◌, ◌<◌, ◌≤◌, ◌↔◌, IsTrue, true, false, List, length, slice_index_or}
use Rattle.cs_theorem.specs.Faults.{has_waiter}
use Rattle.cs_claims.specs.Certificate.{bound_in}
use Rattle.cs_claims.specs.declared.class.Class.{Class}
use Rattle.cs_classes.specs.Work.{arrivals_in}
use Rattle.cs_classes.specs.declared.group_day.GroupDay.{GroupDay}
use Rattle.cs_history.specs.Plan.{Plan}
use Rattle.cs_wait.specs.Bounds.{StepsHoldWithin}

-- past the last group: no arrivals and no bound
abbrev pub no_day : GroupDay
no_day = record { follows = true; left = 0; first = 0 }

-- a group with a job that waits: whether its bound follows the arrivals at each step within the
-- day; the bound plus the arrivals in the last minute; the bound in the first minute
pub record IsWaitedDay (p : Plan) (class : Class) (g : ℕ) (day : GroupDay) : Type 0 where
  pub within : IsTrue day.follows ↔ StepsHoldWithin (bound_in class g) (arrivals_in p class g)
  pub last : day.left ≡ bound_in class g 1439 + arrivals_in p class g 1439
  pub start : day.first ≡ bound_in class g 0

-- a group without a job that waits: nothing could fail to follow, and nothing is left
pub record IsGroupDay (p : Plan) (class : Class) (g : ℕ) (day : GroupDay) : Type 0 where
  pub waited : has_waiter p g ≡ true → IsWaitedDay p class g day
  pub free : has_waiter p g ≡ false → (day.follows ≡ true) × (day.left ≡ 0)

abbrev pub AreGroupDays : Plan → Class → List GroupDay → Type 0
AreGroupDays p class days = (length days ≡ p.groups)
    × ((g : ℕ) → g < p.groups → IsGroupDay p class g (slice_index_or days g no_day))

-- the steps within the eve hold, and the bound in the first minute of the day after is at least
-- what the eve leaves, less one
abbrev pub Leads : GroupDay → GroupDay → Type 0
Leads eve day = (eve.follows ≡ true) × (eve.left ≤ day.first + 1)
