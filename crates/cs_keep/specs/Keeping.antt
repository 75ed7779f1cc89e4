-- What a keep is seen as, and what a step does to it.
use Rattle.std.specs.Prelude.{◌≡◌, ◌⊎◌, ℕ, ◌+◌, ◌-◌, ◌^◌, ◌≤◌, nat_lt, List, [], ◌∷◌, ◌++◌, length}
use Rattle.std.specs.Prelude.{Bool, true, false, ◌||◌, if◌then◌else◌, Option, Some, None}
use Rattle.cs_plan.specs.Plan.{Declared, as_plan}
use Rattle.cs_history.specs.Plan.{Plan}
use Rattle.cs_history.specs.History.{From, Start, IsInTime, IsSafe}
use Rattle.cs_history.specs.Journal.{IsJournal, told}
use Rattle.cs_history.specs.Step.{State, after, refusal, reply, state_of}
use Rattle.cs_history.specs.declared.event.Event.{Event}
use Rattle.cs_history.specs.declared.event.Event.TheVariants.{Minute, Begin, Got, Catch, End, Down, Up}
use Rattle.cs_history.specs.declared.reply.Reply.{Reply}
use Rattle.cs_history.specs.declared.refusal.Refusal.{Refusal}
use Rattle.cs_history.specs.declared.refusal.Refusal.TheVariants.{HistoryFull, OutOfMemory}
use Rattle.cs_core.specs.Standing.{Standing}
use Rattle.cs_keep.specs.declared.limits.TheConstants.{MAX_ENTRIES}

pub record Keeping : Type 0 where
  -- the journal begins here
  pub base : Start
  -- the events accepted since, with their replies, the latest last
  pub journal : List (Event × Reply)
  -- how many events were accepted since the keep was opened
  pub total : ℕ
  pub core : Standing

abbrev pub plan_of : Keeping → Plan
plan_of k = as_plan k.core.plan

abbrev pub opened : Declared → Start → Keeping
opened d s = record {
  base = s;
  journal = [];
  total = 0;
  core = record { plan = d; state = state_of (as_plan d) (From s) };
}

-- the journal is a legal history of the plan with its replies, and ends in the core's state
abbrev pub IsKept : Keeping → Type 0
IsKept k = IsJournal (plan_of k) k.base k.journal k.core.state

-- if each run has ended within its declared time, no two runs of an exclusive group ran at once
-- unless both share its lock, the capacity was never exceeded, and no due minute of a skip job was
-- skipped
abbrev pub IsSafeInTime : Keeping → Type 0
IsSafeInTime k =
    IsInTime (plan_of k) (told k.base k.journal) → IsSafe (plan_of k) (told k.base k.journal)

-- and no more runs are running than the capacity
abbrev pub IsFewInTime : Keeping → Type 0
IsFewInTime k = IsInTime (plan_of k) (told k.base k.journal)
    → length k.core.state.running ≤ (plan_of k).capacity

-- how many runs are running after the event, if it is accepted
abbrev pub runs_after : Keeping → Event → ℕ
runs_after k e = length (after (plan_of k) k.core.state e).running

-- no room, in the journal or in a total of 64 bits, for the event and the ends of what runs then
abbrev pub is_full : Keeping → Event → Bool
is_full k e = nat_lt MAX_ENTRIES (length k.journal + 1 + runs_after k e)
    || nat_lt (2 ^ 64 - 1) (k.total + 1 + runs_after k e)

-- the core's refusal comes before that of a full journal
abbrev pub or_full : Option Refusal → Bool → Option Refusal
or_full (Some r) full = Some r
or_full None full = if full then Some HistoryFull else None

-- the first refusal, except OutOfMemory
abbrev pub refusal_in : Keeping → Event → Option Refusal
refusal_in k e = or_full (refusal (plan_of k) k.core.state e) (is_full k e)

abbrev pub is_end : Event → Bool
is_end (Minute t) = false
is_end (Begin j) = false
is_end (Got j d) = false
is_end (Catch j) = false
is_end (End r) = true
is_end Down = false
is_end (Up t) = false

-- why an event was refused: the first refusal, else out of memory; only the core refuses an end
pub record IsRefused (k : Keeping) (e : Event) (f : Refusal) : Type 0 where
  pub first : (refusal_in k e ≡ Some f) ⊎ ((refusal_in k e ≡ None) × (f ≡ OutOfMemory))
  pub end : is_end e ≡ true → refusal (plan_of k) k.core.state e ≡ Some f

abbrev pub reply_in : Keeping → Event → Reply
reply_in k e = reply (plan_of k) k.core.state e

-- the core takes the event; the journal gets it with its reply, and the total counts it
abbrev pub with_event : Keeping → Event → Keeping
with_event k e = record k {
  journal = k.journal ++ (e, reply_in k e) ∷ [];
  total = k.total + 1;
  core = record { plan = k.core.plan; state = after (plan_of k) k.core.state e };
}

-- nothing is pending, waits or runs, and no pass is open
pub record IsIdle (s : State) : Type 0 where
  pub pending : s.pending ≡ []
  pub waiting : s.waiting ≡ []
  pub running : s.running ≡ []
  pub pass : s.pass ≡ None

abbrev pub start_from : State → Start
start_from s = record { now = s.now; up = s.up; stamps = s.stamps }

-- the journal begins anew at the present state
abbrev pub cut_here : Keeping → Keeping
cut_here k = record k { base = start_from k.core.state; journal = [] }
