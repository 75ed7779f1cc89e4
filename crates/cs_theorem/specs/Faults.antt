-- The fault that a checker returns: the first of the eight rules broken, and its first place.
use Rattle.std.specs.Prelude.{ℕ, zero, suc, ◌+◌, ◌-◌, ◌*◌, Bool, true, false, not, ◌&&◌, ◌||◌, List, [], ◌∷◌, Option, Some, None, if◌then◌else◌, nat_lt, nat_le, ◌==◌, filter, find, flat_map, map, length, unwrap_or, option_map}
use Rattle.std.specs.List.{list_all, list_any, range_with_len}
use Rattle.cs_civil.specs.Calendar.{Kind, kind, kinds_after}
use Rattle.cs_civil.specs.Order.{all_kinds}
use Rattle.cs_history.specs.Lists.{below}
use Rattle.cs_history.specs.Plan.{Plan, waits, locks, belongs}
use Rattle.cs_history.specs.Calm.{reach, load}
use Rattle.cs_windows.specs.declared.window.Window.{Window}
use Rattle.cs_windows.specs.Windows.{day_minutes}
use Rattle.cs_theorem.specs.Windows.{holders}
use Rattle.cs_theorem.specs.Certificate.{Certificate, Stretch}
use Rattle.cs_windows.specs.Entries.{lists}
use Rattle.cs_windows.specs.Tree.{Tree, entries_at}
use Rattle.cs_theorem.specs.Accepted.{begins_on, windows_of, arrivals, nth, clash, blocks, run_in}
use Rattle.cs_wait.specs.Bounds.{at_days}

-- the rules in their order, each with what a message names
pub data Fault : Type 0 where
  ClassNotDue : Kind → Fault
  Missing : List Kind → Fault
  BacklogRises : ℕ → ℕ → Fault
  ReachTooShort : ℕ → Fault
  WindowMissing : Window → ℕ → Fault
  Collision : ℕ → Window → Window → Fault
  OverCapacity : ℕ → ℕ → Fault
  SkipBlocked : ℕ → Window → Window → Fault

-- the first answer, else the second
abbrev pub or_else : {A : Type 0} → Option A → Option A → Option A
or_else None o = o
or_else (Some x) o = Some x

-- the first answer that an element gives
abbrev pub first_of : {A B : Type 0} → (A → Option B) → List A → Option B
first_of f [] = None
first_of f (x ∷ xs) = or_else (f x) (first_of f xs)

-- the first element that is bad with a later one, and the first such later one
abbrev pub first_pair : {A : Type 0} → (A → A → Bool) → List A → Option (A × A)
first_pair bad [] = None
first_pair bad (x ∷ xs) = or_else (option_map (λ y. (x, y)) (find (bad x) xs)) (first_pair bad xs)

-- this fault, if the test fails
abbrev pub unless : {B : Type 0} → Bool → B → Option B
unless b f = if b then None else Some f

abbrev pub same_bool : Bool → Bool → Bool
same_bool true b = b
same_bool false b = not b

abbrev pub same_list : List ℕ → List ℕ → Bool
same_list [] [] = true
same_list [] (y ∷ ys) = false
same_list (x ∷ xs) [] = false
same_list (x ∷ xs) (y ∷ ys) = (x == y) && same_list xs ys

-- the chains of a kind and so many after it, in order
abbrev pub chains_from : ℕ → Kind → List (List Kind)
chains_from zero k = (k ∷ []) ∷ []
chains_from (suc n) k = map (λ ks. k ∷ ks) (flat_map (chains_from n) (kinds_after k))

-- all chains of n kinds, in order
unfoldable pub chains : ℕ → List (List Kind)
chains n = flat_map (chains_from (n - 1)) all_kinds

-- whether n successive days can have these classes
abbrev pub is_used : Certificate → ℕ → List ℕ → Bool
is_used a n s = list_any (λ ks. same_list (map a.class_of ks) s) (chains n)

-- the stretches whose classes successive days can have, in the certificate's order
abbrev pub used_stretches : Certificate → ℕ → List Stretch
used_stretches a n = filter (λ s. is_used a n s.of) a.stretches

-- of 10,227 days, from day n on, the first that ends such a stretch; day n if none does
unfoldable pub last_of : Certificate → ℕ → List ℕ → ℕ
last_of a n s = unwrap_or
    (find (λ e. same_list (map (λ d. a.class_of (kind d)) (range_with_len (e + 1 - n) n)) s)
    (range_with_len n 10227)) n

-- minute m of that day, as a civil minute
abbrev pub minute_of : Certificate → ℕ → Stretch → ℕ → ℕ
minute_of a n s m = 1440 * last_of a n s.of + m

-- whether the kind's class has the due minutes of the kind
abbrev pub is_due_alike : Plan → (ℕ → Kind → ℕ → Bool) → Certificate → Kind → Bool
is_due_alike p on a k = list_all
    (λ j. list_all (λ m. same_bool (a.due (a.class_of k) j m) (on j k m)) day_minutes)
    (below p.crons)

-- due minutes: the first kind whose class doesn't have them
abbrev pub due_fault : Plan → (ℕ → Kind → ℕ → Bool) → Certificate → Option Fault
due_fault p on a = first_of (λ k. unless (is_due_alike p on a k) (ClassNotDue k)) all_kinds

-- stretches: the first kinds whose classes no stretch has
abbrev pub stretch_fault : Certificate → ℕ → Option Fault
stretch_fault a n = first_of
    (λ ks. unless (list_any (λ s. same_list s.of (map a.class_of ks)) a.stretches) (Missing ks))
    (chains n)

-- whether a cron job waits for the lock of the group
abbrev pub has_waiter : Plan → ℕ → Bool
has_waiter p g = list_any (λ j. waits p j && locks p g j) (below p.crons)

-- the step of group g from a minute of the eve to the next: the next bound is at least this bound
-- plus the arrivals, less one
abbrev pub steps_at : Plan → Certificate → ℕ → Stretch → ℕ → ℕ → Bool
steps_at p a n s m g = nat_le ((a.bound (nth s.of (n - 2)) g m + arrivals p a g
    (nth s.of (n - 2)) m) - 1)
    (at_days (a.bound (nth s.of (n - 2)) g ∷ a.bound (nth s.of (n - 1)) g ∷ []) (m + 1))

-- the first minute of the eve, and the first group there, whose next bound is too low
abbrev pub rise_in : Plan → Certificate → ℕ → Stretch → Option (ℕ × ℕ)
rise_in p a n s = first_of
    (λ m. first_of (λ g. unless (not (has_waiter p g) || steps_at p a n s m g) (m, g))
    (below p.groups)) day_minutes

-- backlog steps: the minute is one of the eve
abbrev pub step_fault : Plan → Certificate → ℕ → Option Fault
step_fault p a n = first_of
    (λ s. option_map (λ f. BacklogRises f.1 (minute_of a n s f.0 - 1440)) (rise_in p a n s))
    (used_stretches a n)

-- whether the bound is zero at some minute after the due one, within the reach
abbrev pub clears_by : List (ℕ → ℕ) → ℕ → ℕ → Bool
clears_by bs due reach = list_any
    (λ m. (nat_lt due m && nat_le m (due + reach)) && (at_days bs m == 0))
    (range_with_len 0 (1440 * length bs))

-- whether the reach is listed, and long enough after each due minute of the first day of each
-- stretch in use
abbrev pub reaches_far : Plan → Certificate → ℕ → ℕ → Option ℕ → Bool
reaches_far p a n j None = false
reaches_far p a n j (Some r) = list_all
    (λ s. list_all
    (λ m. not (a.due (nth s.of 0) j m)
    || clears_by (map (λ class. a.bound class (unwrap_or (p.group j) 0)) s.of) m r) day_minutes)
    (used_stretches a n)

-- reaches: the first waiting job that lacks one that is long enough
abbrev pub reach_fault : Plan → Certificate → ℕ → Option Fault
reach_fault p a n = first_of
    (λ j. unless (not (waits p j) || reaches_far p a n j (a.reach j)) (ReachTooShort j))
    (below p.crons)

-- where windows are listed: the first minute of the day at which the leaf doesn't list a window
-- that holds it, and the first such window
abbrev pub missing_in : Option Tree → List Window → Option (ℕ × Window)
missing_in None ws = None
missing_in (Some tree) ws = first_of
    (λ m. option_map (λ w. (m, w))
    (find (λ w. not (lists (entries_at tree m) w)) (holders m ws))) day_minutes

abbrev pub leaf_fault : Plan → Certificate → ℕ → Option Fault
leaf_fault p a n = first_of
    (λ s. option_map (λ f. WindowMissing f.1 (minute_of a n s f.0))
    (missing_in s.tree (windows_of p a s.of))) (used_stretches a n)

-- the first minute of the day, the first group there, and the first two of its windows that may not
-- hold one minute
abbrev pub collision_in : Plan → List Window → Option (ℕ × Window × Window)
collision_in p ws = first_of
    (λ m. first_of
    (λ g. option_map (λ q. (m, q.0, q.1))
    (first_pair (λ v w. belongs p g v.job && clash p v.job w.job) (holders m ws)))
    (below p.groups)) day_minutes

abbrev pub collision_fault : Plan → Certificate → ℕ → Option Fault
collision_fault p a n = first_of
    (λ s. option_map (λ f. Collision (minute_of a n s f.0) f.1 f.2)
    (collision_in p (windows_of p a s.of))) (used_stretches a n)

-- the first minute of the day at which the windows weigh more than the capacity, and what they
-- weigh
abbrev pub overload_in : Plan → ℕ → List Window → Option (ℕ × ℕ)
overload_in p n ws = first_of
    (λ m. unless (nat_le (load p (map (run_in n) (holders m ws))) p.capacity)
    (m, load p (map (run_in n) (holders m ws)))) day_minutes

abbrev pub capacity_fault : Plan → Certificate → ℕ → Option Fault
capacity_fault p a n = first_of
    (λ s. option_map (λ f. OverCapacity (minute_of a n s f.0) f.1)
    (overload_in p n (windows_of p a s.of))) (used_stretches a n)

-- the first due minute of a skip job at which a window keeps the lock from it, the job's window,
-- and the first that does
abbrev pub blocked_in : Plan → List Window → Option (ℕ × Window × Window)
blocked_in p ws = first_of
    (λ m. first_of (λ v. option_map (λ w. (m, v, w)) (find (blocks p m v) (holders m ws)))
    (holders m ws)) day_minutes

abbrev pub skip_fault : Plan → Certificate → ℕ → Option Fault
skip_fault p a n = first_of
    (λ s. option_map (λ f. SkipBlocked (minute_of a n s f.0) f.1 f.2)
    (blocked_in p (windows_of p a s.of))) (used_stretches a n)

unfoldable pub first_fault : Plan → (ℕ → Kind → ℕ → Bool) → Certificate → ℕ → Option Fault
first_fault p on a n = or_else (due_fault p on a)
    (or_else (stretch_fault a n)
    (or_else (step_fault p a n)
    (or_else (reach_fault p a n)
    (or_else (leaf_fault p a n)
    (or_else (collision_fault p a n) (or_else (capacity_fault p a n) (skip_fault p a n)))))))

-- whether no window outlasts k days
abbrev pub fits : Plan → (ℕ → Kind → ℕ → Bool) → (ℕ → ℕ) → ℕ → Bool
fits p on c k = list_all
    (λ j. list_all
    (λ q. list_all
    (λ m. not (begins_on p on j q m) || nat_le (m + reach p c j) (1440 * k)) day_minutes) all_kinds)
    (below p.jobs)

-- the length of the stretches; 4 also if a window outlasts four days
unfoldable pub stretch_length : Plan → (ℕ → Kind → ℕ → Bool) → (ℕ → ℕ) → ℕ
stretch_length p on c = if fits p on c 2 then 2 else (if fits p on c 3 then 3 else 4)
