-- What is asked of one stretch.
use Rattle.std.specs.Prelude.{◌≡◌, ℕ, ◌-◌, ◌<◌, ◌≤◌, length, true, false, Bool, not, ◌||◌, List, [], map, Option, None, Some, option_map, unwrap_or, All}
use Rattle.std.specs.List.{list_all}
use Rattle.cs_windows.specs.Occupied.{job_of}
use Rattle.cs_windows.specs.Windows.{day_minutes}
use Rattle.cs_history.specs.Lists.{below}
use Rattle.cs_history.specs.Plan.{Plan, waits}
use Rattle.cs_theorem.specs.Certificate.{Certificate, Stretch}
use Rattle.cs_theorem.specs.Accepted.{AreWithin, AreApart, ListsAll, AreFree, arrivals, nth, windows_of}
use Rattle.cs_theorem.specs.Faults.{Fault, BacklogRises, ReachTooShort, WindowMissing, Collision, OverCapacity, SkipBlocked, blocked_in, clears_by, collision_in, due_fault, first_of, has_waiter, minute_of, missing_in, or_else, overload_in, rise_in, stretch_fault, unless, used_stretches}
use Rattle.cs_wait.specs.Bounds as bounds
use Rattle.cs_claims.specs.declared.class.Class.{Class}
use Rattle.cs_classes.specs.Claim.{Claimed, as_certificate, class_at}
use Rattle.cs_plan.specs.Plan.{Declared, as_plan}
use Rattle.cs_overlap.specs.Roles.{IsOf}
use Rattle.cs_classes.specs.Planned.{due_on, planned}
use Rattle.cs_check.specs.Case.{IsFit}
use Rattle.cs_check.specs.ClassDays.{AreClassDays}
use Rattle.cs_check.specs.declared.case.Case.{Case}
use Rattle.cs_windows.specs.declared.window.Window.{Window}
use Rattle.cs_classes.specs.Said.{said}
use Rattle.cs_classes.specs.StandsFor.{days_by}
use Rattle.cs_classes.specs.Used.{IsInUse, seen}
use Rattle.cs_classes.specs.declared.used.UsedStretch.{UsedStretch}
use Rattle.cs_check.specs.declared.order.Rule.{Rule}
use Rattle.cs_check.specs.declared.order.Rule.TheVariants as rules

abbrev pub plan_of : Case → Plan
plan_of k = as_plan k.plan.now

abbrev pub claim_of : Case → Certificate
claim_of k = as_certificate (said k.claim.now)

abbrev pub classes_in : Case → UsedStretch → List Class
classes_in k u = map (class_at (said k.claim.now).classes) u.of.now

abbrev pub windows_in : Case → UsedStretch → List Window
windows_in k u = windows_of (plan_of k) (claim_of k) u.of.now

-- the fault of a stretch by each of the rules that are checked stretch by stretch
abbrev pub steps_fault : Plan → Certificate → ℕ → Stretch → Option Fault
steps_fault p a n s =
    option_map (λ f. BacklogRises f.1 (minute_of a n s f.0 - 1440)) (rise_in p a n s)

abbrev pub leaves_fault : Plan → Certificate → ℕ → Stretch → Option Fault
leaves_fault p a n s = option_map (λ f. WindowMissing f.1 (minute_of a n s f.0))
    (missing_in s.tree (windows_of p a s.of))

abbrev pub collisions_fault : Plan → Certificate → ℕ → Stretch → Option Fault
collisions_fault p a n s =
    option_map (λ f. Collision (minute_of a n s f.0) f.1 f.2) (collision_in p (windows_of p a s.of))

abbrev pub capacity_fault : Plan → Certificate → ℕ → Stretch → Option Fault
capacity_fault p a n s =
    option_map (λ f. OverCapacity (minute_of a n s f.0) f.1) (overload_in p n (windows_of p a s.of))

abbrev pub skips_fault : Plan → Certificate → ℕ → Stretch → Option Fault
skips_fault p a n s =
    option_map (λ f. SkipBlocked (minute_of a n s f.0) f.1 f.2) (blocked_in p (windows_of p a s.of))

abbrev pub fault_by : Rule → Plan → Certificate → ℕ → Stretch → Option Fault
fault_by rules.Steps = steps_fault
fault_by rules.Leaves = leaves_fault
fault_by rules.Collisions = collisions_fault
fault_by rules.Capacity = capacity_fault
fault_by rules.Skips = skips_fault

-- backlog steps: the bounds of the groups follow the arrivals, from the last day but one to the
-- last
abbrev pub StepsHold : Plan → Certificate → ℕ → Stretch → Type 0
StepsHold p a n s = (g : ℕ) → g < p.groups → has_waiter p g ≡ true
    → bounds.StepsHold (a.bound (nth s.of (n - 2)) g) (arrivals p a g (nth s.of (n - 2)))
    (a.bound (nth s.of (n - 1)) g)

-- whether the bound of the job's group is zero within the reach after each due minute of the first
-- day of a stretch
abbrev pub clears_on : Plan → Certificate → ℕ → ℕ → Stretch → Bool
clears_on p a j reach s = list_all
    (λ m. not (a.due (nth s.of 0) j m)
    || clears_by (map (λ class. a.bound class (unwrap_or (p.group j) 0)) s.of) m reach) day_minutes

-- reaches: that of the job, if it waits and has one, is long enough
abbrev pub ReachHolds : Plan → Certificate → Stretch → ℕ → Type 0
ReachHolds p a s j =
    (r : ℕ) → waits p j ≡ true → a.reach j ≡ Some r → clears_on p a j r s ≡ true

-- and that of each job
abbrev pub ReachesHold : Plan → Certificate → Stretch → Type 0
ReachesHold p a s = (j : ℕ) → j < p.crons → ReachHolds p a s j

-- the rules that are checked stretch by stretch hold of it
pub record IsGood (p : Plan) (a : Certificate) (n : ℕ) (s : Stretch) : Type 0 where
  pub steps : StepsHold p a n s
  pub reaches : ReachesHold p a s
  pub leaves : ListsAll s.tree (windows_of p a s.of)
  pub collisions : AreApart p (windows_of p a s.of)
  pub capacity : AreWithin p n (windows_of p a s.of)
  pub skips : AreFree p (windows_of p a s.of)

abbrev pub IsGoodIn : Case → UsedStretch → Type 0
IsGoodIn k u = IsGood (plan_of k) (claim_of k) k.days (seen u)

-- the classes have the due minutes of their kinds, and the rest is the plan's and the certificate's
pub record IsCase (k : Case) : Type 0 where
  pub fit : IsFit k.plan.now (said k.claim.now).reach
  pub due : due_fault (as_plan k.plan.now) (due_on k.plan.now) (as_certificate (said k.claim.now))
      ≡ None
  pub long : k.days ≡ days_by k.plan.now (said k.claim.now).reach
  pub jobs : map job_of k.occupied.items ≡ planned k.plan.now (said k.claim.now).reach
  pub few : length k.occupied.items ≤ 320
  pub roles : IsOf (as_plan k.plan.now) k.roles
  pub class_days : AreClassDays k.plan.now (said k.claim.now) k.class_days.items
  pub nothing : k.none.now ≡ []

-- whether the job has a reach that is long enough on each of these stretches
abbrev pub reaches_far : Plan → Certificate → List Stretch → ℕ → Option ℕ → Bool
reaches_far p a stretches j None = false
reaches_far p a stretches j (Some reach) = list_all (clears_on p a j reach) stretches

abbrev pub is_far : Plan → Certificate → List Stretch → ℕ → Bool
is_far p a stretches j = not (waits p j) || reaches_far p a stretches j (a.reach j)

-- reaches: the first waiting job without one that is long enough
abbrev pub reaches_fault : Plan → Certificate → List Stretch → Option Fault
reaches_fault p a stretches =
    first_of (λ j. unless (is_far p a stretches j) (ReachTooShort j)) (below p.crons)

-- the first fault of these stretches by the rules on windows
unfoldable pub windows_fault : Plan → Certificate → ℕ → List Stretch → Option Fault
windows_fault p a n stretches = or_else (first_of (leaves_fault p a n) stretches)
    (or_else (first_of (collisions_fault p a n) stretches)
    (or_else (first_of (capacity_fault p a n) stretches)
    (first_of (skips_fault p a n) stretches)))

-- by all but the first two rules
unfoldable pub later_fault : Plan → Certificate → ℕ → List Stretch → Option Fault
later_fault p a n stretches = or_else (first_of (steps_fault p a n) stretches)
    (or_else (reaches_fault p a stretches) (windows_fault p a n stretches))

abbrev pub all_seen : List UsedStretch → List Stretch
all_seen stretches = map seen stretches

abbrev pub AreGood : Case → List UsedStretch → Type 0
AreGood k stretches = All (IsGoodIn k) stretches

-- these are the stretches in use, and none is missing
pub record AreStretches (k : Case) (stretches : List UsedStretch) : Type 0 where
  pub listed : map seen stretches
      ≡ used_stretches (as_certificate (said k.claim.now)) k.days
  pub in_use : All (IsInUse (said k.claim.now) k.days) stretches
  pub complete : stretch_fault (as_certificate (said k.claim.now)) k.days ≡ None

abbrev pub HaveReaches : Plan → Certificate → Type 0
HaveReaches p a = (j : ℕ) → j < p.crons → waits p j ≡ true → (r : ℕ) × (a.reach j ≡ Some r)

pub record IsCaseOf (d : Declared) (c : Claimed) (k : Case) : Type 0 where
  pub case : IsCase k
  pub plan : k.plan.now ≡ d
  pub certificate : said k.claim.now ≡ c
