-- What makes a certificate accepted: eight rules about kinds of days and stretches of days.
use Rattle.std.specs.Prelude.{◌≡◌, ℕ, ◌+◌, ◌-◌, ◌*◌, ◌/◌, ◌%◌, ◌<◌, ◌≤◌, Bool, true, false, not, ◌&&◌, ◌||◌, List, [], ◌∷◌, Option, Some, None, if◌then◌else◌, ◌==◌, filter, map, length, get_or, unwrap_or, Contains, ⊤}
use Rattle.std.specs.List.{AllByRecursion, range_with_len}
use Rattle.cs_civil.specs.Calendar.{Kind, IsKind, kind, kinds_after}
use Rattle.cs_history.specs.declared.run.Run.{Run}
use Rattle.cs_history.specs.Lists.{total, EachPair, below}
use Rattle.cs_history.specs.Plan.{Plan, is_cron, takes_lock, waits, locks, same_group, rivals, is_skip}
use Rattle.cs_history.specs.Calm.{reach, load, HasWaiter}
use Rattle.cs_windows.specs.Windows.{Job, windows_on}
use Rattle.cs_wait.specs.Bounds.{StepsHold, ClearsBy}
use Rattle.cs_windows.specs.declared.window.Window.{Window}
use Rattle.cs_windows.specs.Window.{window}
use Rattle.cs_theorem.specs.Windows.{same_window, holders}
use Rattle.cs_theorem.specs.Certificate.{Certificate, Stretch}
use Rattle.cs_windows.specs.Entries.{lists}
use Rattle.cs_windows.specs.Tree.{Tree, entries_at}

-- the reach that a certificate gives a job, or its declared time if it gives none
abbrev pub reach_in : Plan → Certificate → ℕ → ℕ
reach_in p a j = unwrap_or (a.reach j) (p.limit j)

-- whether a window of the job begins at a minute of such a day: a cron job's when the job is due by
-- `on`, an anacron job's when the catch-up hours begin
abbrev pub begins_on : {D : Type 0} → Plan → (ℕ → D → ℕ → Bool) → ℕ → D → ℕ → Bool
begins_on p on j day m = if is_cron p j then on j day m else (m == p.from)

-- the jobs of a plan as their windows see them
abbrev pub occupied : {D : Type 0} → Plan → (ℕ → D → ℕ → Bool) → (ℕ → ℕ) → List (Job D)
occupied p on c =
    map (λ j. record { begins = begins_on p on j; lasts = reach p c j }) (below p.jobs)

-- when a job is due on a day of a class, by the certificate
abbrev pub due_in : Certificate → ℕ → ℕ → ℕ → Bool
due_in a j class m = a.due class j m

-- the windows of a stretch that reach its last day
abbrev pub windows_of : Plan → Certificate → List ℕ → List Window
windows_of p a s = windows_on (occupied p (due_in a) (reach_in p a)) s

-- each window ends at most so many days after the start of the day on which it begins
abbrev pub EndWithin : Plan → (ℕ → Kind → ℕ → Bool) → (ℕ → ℕ) → ℕ → Type 0
EndWithin p on c n = (j m : ℕ) (k : Kind) → j < p.jobs → m < 1440 → IsKind k
    → begins_on p on j k m ≡ true → m + reach p c j ≤ 1440 * n

-- the length of the stretches: the smallest of 2, 3, 4 that no window outlasts
pub record IsLength (p : Plan) (on : ℕ → Kind → ℕ → Bool) (c : ℕ → ℕ) (n : ℕ) : Type 0 where
  pub range : (2 ≤ n) × (n ≤ 4)
  pub ends : EndWithin p on c n
  pub least : (k : ℕ) → 2 ≤ k → EndWithin p on c k → n ≤ k

-- no job takes or waits longer than three days
pub record IsModest (p : Plan) (c : ℕ → ℕ) : Type 0 where
  pub cron : (j : ℕ) → is_cron p j ≡ true → reach p c j ≤ 4320
  pub catch : (j : ℕ) → is_cron p j ≡ false → p.limit j ≤ 4320

-- the first of the kinds can follow this one
abbrev pub IsFollowed : Kind → List Kind → Type 0
IsFollowed k [] = ⊤
IsFollowed k (l ∷ ks) = Contains (kinds_after k) l

-- kinds of days, each of which can follow the one before
abbrev pub IsChain : List Kind → Type 0
IsChain [] = ⊤
IsChain (k ∷ ks) = IsKind k × IsFollowed k ks × IsChain ks

-- n successive days can have these classes
pub record IsUsed (a : Certificate) (n : ℕ) (s : List ℕ) : Type 0 where
  pub kinds : List Kind
  pub chain : IsChain kinds
  pub long : length kinds ≡ n
  pub classes : map a.class_of kinds ≡ s

-- the sum of the declared times of the cron jobs that are due at a minute of a class and take the
-- lock of g
abbrev pub arrivals : Plan → Certificate → ℕ → ℕ → ℕ → ℕ
arrivals p a g class m = total (λ j. if locks p g j then p.limit j else 0)
    (filter (λ j. a.due class j m) (below p.crons))

-- the class at a place of a stretch
abbrev pub nth : List ℕ → ℕ → ℕ
nth s i = get_or s i 0

-- two jobs' windows may not meet: of one exclusive group, one is cron's, and not both take its lock
abbrev pub clash : Plan → ℕ → ℕ → Bool
clash p i j =
    rivals p i j && ((is_cron p i || is_cron p j) && not (takes_lock p i && takes_lock p j))

-- w keeps the lock from the skip job whose window v begins at this minute of the day
abbrev pub blocks : Plan → ℕ → Window → Window → Bool
blocks p m v w = (is_skip (p.mode v.job) && ((v.day_back == 0) && (v.from == m)))
    && (not (same_window v w) && (takes_lock p w.job && same_group p v.job w.job))

-- the run of a window, its minute counted from the start of the first day of a stretch of n
abbrev pub run_in : ℕ → Window → Run
run_in n w = record { job = w.job; at = 1440 * ((n - 1) - w.day_back) + w.from }

-- where windows are listed: at each minute the leaf there lists those that hold it
abbrev pub ListsAll : Option Tree → List Window → Type 0
ListsAll None ws = ⊤
ListsAll (Some tree) ws =
    (m : ℕ) → m < 1440 → AllByRecursion (λ w. lists (entries_at tree m) w ≡ true) (holders m ws)

abbrev pub IsCovered : Plan → Certificate → Stretch → Type 0
IsCovered p a s = ListsAll s.tree (windows_of p a s.of)

-- at no minute of the day do two windows clash
abbrev pub AreApart : Plan → List Window → Type 0
AreApart p ws = (m : ℕ) → m < 1440 → EachPair (λ v w. clash p v.job w.job ≡ false) (holders m ws)

-- at each minute of the day the windows weigh at most the capacity
abbrev pub AreWithin : Plan → ℕ → List Window → Type 0
AreWithin p n ws = (m : ℕ) → m < 1440 → load p (map (run_in n) (holders m ws)) ≤ p.capacity

-- at no due minute of a skip job does a window keep the lock from it
abbrev pub AreFree : Plan → List Window → Type 0
AreFree p ws = (m : ℕ) → m < 1440
    → AllByRecursion (λ v. AllByRecursion (λ w. blocks p m v w ≡ false) (holders m ws))
    (holders m ws)

-- it holds of each stretch whose classes successive days can have
abbrev pub InEach : Certificate → ℕ → (Stretch → Type 0) → Type 0
InEach a n P = AllByRecursion (λ s. IsUsed a n s.of → P s) a.stretches

-- The eight rules, for stretches of n days. `on` decides when cron jobs are due on a kind of day.
pub record IsAccepted (p : Plan) (on : ℕ → Kind → ℕ → Bool) (a : Certificate) (n : ℕ) : Type 0 where
  -- due minutes: each kind's class has exactly those of the kind
  pub due : (k : Kind) → IsKind k → (j m : ℕ) → is_cron p j ≡ true → m < 1440
      → a.due (a.class_of k) j m ≡ on j k m
  -- stretches: each n successive kinds have the stretch of their classes
  pub listed : (ks : List Kind) → IsChain ks → length ks ≡ n
      → Contains (map (λ s. s.of) a.stretches) (map a.class_of ks)
  -- backlog steps: in each stretch in use, from the last day but one, for each waiting job's group
  pub steps : (g : ℕ) → HasWaiter p g
      → InEach a n
      (λ s. StepsHold (a.bound (nth s.of (n - 2)) g) (arrivals p a g (nth s.of (n - 2)))
      (a.bound (nth s.of (n - 1)) g))
  -- reaches: each waiting job has one, and within it the backlog of its group is zero after each
  -- due minute of the first day
  pub clears : (j g : ℕ) → is_cron p j ≡ true → waits p j ≡ true → locks p g j ≡ true
      → (r : ℕ) × (a.reach j ≡ Some r)
      × InEach a n
      (λ s. (m : ℕ) → m < 1440 → a.due (nth s.of 0) j m ≡ true
      → ClearsBy (map (λ class. a.bound class g) s.of) m r)
  -- leaves: where windows are listed, each minute's leaf on the last day lists all that hold it
  pub covered : InEach a n (IsCovered p a)
  -- collisions, capacity, skip jobs: on the last day
  pub apart : InEach a n (λ s. AreApart p (windows_of p a s.of))
  pub within : InEach a n (λ s. AreWithin p n (windows_of p a s.of))
  pub free : InEach a n (λ s. AreFree p (windows_of p a s.of))

-- the windows that n days of the calendar, from this one on, leave on the last
abbrev pub windows_on_days : Plan → Certificate → ℕ → ℕ → List Window
windows_on_days p a first n =
    windows_of p a (map (λ e. a.class_of (kind e)) (range_with_len first n))

-- the run of a window of a stretch that ends on day d
abbrev pub run_at : ℕ → Window → Run
run_at d w = record { job = w.job; at = 1440 * (d - w.day_back) + w.from }

-- the window of a run, seen from day d
abbrev pub window_on : Plan → (ℕ → ℕ) → ℕ → Run → Window
window_on p c d r = window r.job (d - r.at / 1440) (r.at % 1440) (reach p c r.job)

-- the bound that the classes of days give a group at a civil minute
abbrev pub bound_on : Certificate → ℕ → ℕ → ℕ
bound_on a g t = a.bound (a.class_of (kind (t / 1440))) g (t % 1440)

-- when a cron job is due depends on the kind of the day alone
abbrev pub IsByKind : Plan → (ℕ → Kind → ℕ → Bool) → Type 0
IsByKind p on =
    (j d m : ℕ) → is_cron p j ≡ true → m < 1440 → p.due j (1440 * d + m) ≡ on j (kind d) m
