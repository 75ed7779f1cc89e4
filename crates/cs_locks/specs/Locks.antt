-- Locks: how runs hold those of their groups, and how many have each of them.
use Rattle.std.specs.Prelude.{◌≡◌, ℕ, ◌+◌, ◌-◌, ◌<◌, ◌^◌, Bool, true, false, not, ◌&&◌, ◌||◌, if◌then◌else◌, ◌==◌, nat_lt, List, map, Option, None, Some, slice_index}
use Rattle.cs_history.specs.Lists.{number_of}
use Rattle.cs_history.specs.Plan.{Plan, takes_lock, shares}
use Rattle.cs_locks.specs.declared.hold.Hold.{Hold}
use Rattle.cs_locks.specs.declared.hold.Hold.TheVariants.{Nothing, Alone, Shared}

-- it has the lock of this group alone
abbrev pub is_alone : ℕ → Hold → Bool
is_alone g Nothing = false
is_alone g (Alone k) = g == k
is_alone g (Shared k) = false

-- it shares the lock of this group
abbrev pub is_shared : ℕ → Hold → Bool
is_shared g Nothing = false
is_shared g (Alone k) = false
is_shared g (Shared k) = g == k

abbrev pub takes : Hold → Bool
takes Nothing = false
takes (Alone g) = true
takes (Shared g) = true

abbrev pub is_sharer : Hold → Bool
is_sharer Nothing = false
is_sharer (Alone g) = false
is_sharer (Shared g) = true

abbrev pub is_of : ℕ → Hold → Bool
is_of g h = is_alone g h || is_shared g h

abbrev pub same_lock : Hold → Hold → Bool
same_lock Nothing h = false
same_lock (Alone g) h = is_of g h
same_lock (Shared g) h = is_of g h

-- h keeps the lock from w (flock(1)): both are of one group, and not both share it
abbrev pub bars : Hold → Hold → Bool
bars w h = same_lock w h && not (is_sharer w && is_sharer h)

abbrev pub is_listed : Hold → Bool
is_listed Nothing = true
is_listed (Alone g) = nat_lt g 64
is_listed (Shared g) = nat_lt g 64

-- for each group, how many have its lock alone, and how many share it
pub record Counts : Type 0 where
  pub alone : List ℕ
  pub shared : List ℕ

-- the table counts these
pub record IsCounted (hs : List Hold) (table : Counts) : Type 0 where
  pub alone : (g : ℕ) → g < 64 → slice_index table.alone g ≡ number_of (is_alone g) hs
  pub shared : (g : ℕ) → g < 64 → slice_index table.shared g ≡ number_of (is_shared g) hs

-- hs are ks and h, in some order: any count of hs is greater by that of h
abbrev pub IsWithOne : Hold → List Hold → List Hold → Type 0
IsWithOne h ks hs = (t : Hold → Bool) → number_of t hs ≡ number_of t ks + (if t h then 1 else 0)

pub record HasRoom (table : Counts) : Type 0 where
  pub alone : (g : ℕ) → g < 64 → slice_index table.alone g < 2 ^ 64 - 1
  pub shared : (g : ℕ) → g < 64 → slice_index table.shared g < 2 ^ 64 - 1

-- one of those that wait for the lock of this group would find it free: nobody has it alone, and
-- one of them would share it, or one would have it alone and nobody shares it
abbrev pub frees_in : Counts → Counts → ℕ → Bool
frees_in now waiting g =
    (slice_index now.alone g == 0)
    && (nat_lt 0 (slice_index waiting.shared g)
    || (nat_lt 0 (slice_index waiting.alone g) && (slice_index now.shared g == 0)))

-- by whether a mode takes the lock and shares it, and by the group, if there is one
abbrev pub hold_in : Bool → Bool → Option ℕ → Hold
hold_in takes shares None = Nothing
hold_in false shares (Some g) = Nothing
hold_in true false (Some g) = Alone g
hold_in true true (Some g) = Shared g

-- a run's hold: nothing if its mode takes no lock, or without a group
abbrev pub hold_of : Plan → ℕ → Hold
hold_of p j = hold_in (takes_lock p j) (shares p j) (p.group j)
