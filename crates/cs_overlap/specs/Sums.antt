-- What the windows that hold a minute of the last day have together, or at most.
use Rattle.std.specs.Prelude.{◌≡◌, ℕ, ◌+◌, ◌<◌, ◌≤◌, ◌⊎◌, max, min, nat_le, nat_lt, Bool, true, false, not, ◌&&◌, ◌||◌, List, length, Some, if◌then◌else◌, is_some, slice_index}
use Rattle.std.specs.List.{AllByRecursion}
use Rattle.cs_history.specs.Lists.{total, greatest, below, EachPair}
use Rattle.cs_history.specs.Plan.{takes, shares_in, is_group, is_skip}
use Rattle.cs_windows.specs.declared.window.Window.{Window}
use Rattle.cs_windows.specs.Window.{touches}
use Rattle.cs_theorem.specs.Windows.{holders}
use Rattle.cs_overlap.specs.declared.role.Role.{Role}
use Rattle.cs_overlap.specs.declared.table.Amount.{Amount}
use Rattle.cs_overlap.specs.declared.table.Amount.TheVariants.{FreeWeight, CatchWeight, AloneWeight, SharedWeight, OwnWeight, Run, PlainRun, CronRun, LockRun}
use Rattle.cs_overlap.specs.Roles.{role_at, roles_clash, catch_weight, load_by}
use Rattle.cs_overlap.specs.Found.{role_blocks}

-- how much a run of such a job counts
abbrev pub amount_of : Amount → Role → ℕ
amount_of FreeWeight r = if r.is_cron && not (takes r.mode) then r.weight else 0
amount_of CatchWeight r = if not r.is_cron then r.weight else 0
amount_of AloneWeight r = if takes r.mode && not (shares_in r.mode) then r.weight else 0
amount_of SharedWeight r = if takes r.mode && shares_in r.mode then r.weight else 0
amount_of OwnWeight r = if r.is_cron || takes r.mode then r.weight else 0
amount_of Run r = 1
amount_of PlainRun r = if not (takes r.mode) then 1 else 0
amount_of CronRun r = if r.is_cron then 1 else 0
amount_of LockRun r = if takes r.mode then 1 else 0

abbrev pub amount_in : List Role → Amount → Window → ℕ
amount_in roles amount w = amount_of amount (role_at roles w.job)

abbrev pub Until : ℕ → (ℕ → Type 0) → Type 0
Until end P = (m : ℕ) → m < end → P m

abbrev pub EachMinute : (ℕ → Type 0) → Type 0
EachMinute P = Until 1440 P

-- of the minutes of the day, the window holds those from `first` on, below `end`
abbrev pub HoldsFrom : Window → ℕ → ℕ → Type 0
HoldsFrom w first end = EachMinute (λ m. touches w m (m + 1) ≡ (nat_le first m && nat_lt m end))

-- at the minutes of the day that the window holds the table has changed so, at the others not at
-- all
pub record IsChanged (w : Window) (change : ℕ → ℕ) (old new : List ℕ) : Type 0 where
  pub long : length new ≡ length old
  pub held : (m : ℕ) → m < 1440 → touches w m (m + 1) ≡ true
      → slice_index new m ≡ change (slice_index old m)
  pub other : (m : ℕ) → m < 1440 → touches w m (m + 1) ≡ false
      → slice_index new m ≡ slice_index old m

-- from `since` on, below `until`, the table has the number at least
abbrev pub IsReached : ℕ → ℕ → ℕ → List ℕ → Type 0
IsReached number since until table =
    (m : ℕ) → since ≤ m → m < until → number ≤ slice_index table m

-- a sum in 16 bits
abbrev pub capped : ℕ → ℕ
capped n = min n 65535

-- at each minute of the day what the windows that hold it have together
abbrev pub IsSum : (Window → ℕ) → List Window → List ℕ → Type 0
IsSum f ws table = EachMinute (λ m. slice_index table m ≡ capped (total f (holders m ws)))

-- at each minute of the day the most that a window that holds it has
abbrev pub IsGreatest : (Window → ℕ) → List Window → List ℕ → Type 0
IsGreatest f ws table = EachMinute (λ m. slice_index table m ≡ greatest f (holders m ws))

abbrev pub is_of : List Role → ℕ → Window → Bool
is_of roles g w = is_group g (role_at roles w.job).group

abbrev pub has_group_or_catches : List Role → Window → Bool
has_group_or_catches roles w =
    not (role_at roles w.job).is_cron || is_some (role_at roles w.job).group

-- ---- the three rules by the roles of jobs, before a minute of the day

-- at no minute before `end` do two windows clash
abbrev pub AreApartBy : ℕ → List Role → List Window → Type 0
AreApartBy end roles ws = Until end
    (λ m. EachPair (λ v w. roles_clash (role_at roles v.job) (role_at roles w.job) ≡ false)
    (holders m ws))

-- at each minute before `end` the windows weigh at most the capacity
abbrev pub AreWithinBy : ℕ → List Role → ℕ → ℕ → List Window → Type 0
AreWithinBy end roles groups capacity ws =
    Until end (λ m. load_by roles groups (holders m ws) ≤ capacity)

-- at no due minute of a skip job before `end` does a window keep the lock from it
abbrev pub AreFreeBy : ℕ → List Role → List Window → Type 0
AreFreeBy end roles ws = Until end
    (λ m. AllByRecursion (λ v. AllByRecursion (λ w. role_blocks roles m v w ≡ false) (holders m ws))
    (holders m ws))

abbrev pub AreGrouped : List Role → ℕ → Type 0
AreGrouped roles groups = (j g : ℕ) → (role_at roles j).group ≡ Some g → g < groups

-- ---- tables for them

-- at each minute before `end` there is at most one run, or none without the lock, or none of a cron
-- job
abbrev pub NoneClash : ℕ → List ℕ → List ℕ → List ℕ → Type 0
NoneClash end runs plain cron = Until end
    (λ m. (slice_index runs m ≤ 1) ⊎ ((slice_index plain m ≡ 0) ⊎ (slice_index cron m ≡ 0)))

-- the window's job has no exclusive group
abbrev pub NotExclusive : List Role → Window → Type 0
NotExclusive roles w = (role_at roles w.job).is_exclusive ≡ false

-- the window's job takes a lock if it has a group
abbrev pub Locks : List Role → Window → Type 0
Locks roles w =
    is_some (role_at roles w.job).group ≡ true → takes (role_at roles w.job).mode ≡ true

-- if the window is a skip job's that begins before minute `end` of the last day, the table has at
-- most one there
abbrev pub IsLone : ℕ → List Role → List ℕ → Window → Type 0
IsLone end roles table w = is_skip (role_at roles w.job).mode ≡ true → w.day_back ≡ 0
    → w.from < end → slice_index table w.from ≤ 1

-- at each minute of the day what the windows that hold it weigh, counting the first so many groups
abbrev pub IsLoad : List Role → List Window → ℕ → List ℕ → Type 0
IsLoad roles ws groups table =
    EachMinute (λ m. slice_index table m ≡ capped (load_by roles groups (holders m ws)))

abbrev pub lock_weight : List Role → List Window → ℕ
lock_weight roles ws =
    max (greatest (amount_in roles AloneWeight) ws) (total (amount_in roles SharedWeight) ws)

abbrev pub IsAdded : List Role → List Window → List ℕ → List ℕ → Type 0
IsAdded roles ws old new = EachMinute
    (λ m. slice_index new m ≡ capped (slice_index old m + lock_weight roles (holders m ws)))

abbrev pub IsGreaterAdded : List ℕ → List ℕ → List ℕ → List ℕ → Type 0
IsGreaterAdded one other old new = EachMinute
    (λ m. slice_index new m
    ≡ capped (slice_index old m + max (slice_index one m) (slice_index other m)))

-- at each minute of the day the heaviest catch-up is added
abbrev pub IsCaught : List Role → List Window → List ℕ → List ℕ → Type 0
IsCaught roles ws old new = EachMinute
    (λ m. slice_index new m
    ≡ capped (slice_index old m + greatest (catch_weight roles) (holders m ws)))

abbrev pub IsDay : List ℕ → Type 0
IsDay table = length table ≡ 1440

-- ---- tables of what begins and of what ends at each minute

abbrev pub up_to : List ℕ → ℕ → ℕ
up_to table k = total (slice_index table) (below k)

abbrev pub AreAtMost : ℕ → List ℕ → Type 0
AreAtMost most table = (k : ℕ) → slice_index table k ≤ most

pub record IsRaisedAt (place more : ℕ) (old new : List ℕ) : Type 0 where
  pub long : length new ≡ length old
  pub here : slice_index new place ≡ slice_index old place + more
  pub others : (k : ℕ) → (k ≡ place → ⊥) → slice_index new k ≡ slice_index old k

abbrev pub IsTally : (Window → ℕ) → List Window → List ℕ → List ℕ → Type 0
IsTally f ws begun ended =
    EachMinute (λ m. up_to begun (m + 1) ≡ up_to ended (m + 1) + total f (holders m ws))

-- at each minute of the day the table has what has begun by then and not ended
abbrev pub IsRunning : List ℕ → List ℕ → List ℕ → Type 0
IsRunning begun ended table = (m n : ℕ) → m < 1440 → up_to begun (m + 1) ≡ up_to ended (m + 1) + n
    → slice_index table m ≡ capped n
