-- The events of a tick, and what they leave.
use Rattle.std.specs.Prelude.{◌≡◌, ◌≢◌, ◌⊎◌, ◌<◌, ◌≤◌, ℕ, zero, suc, ◌+◌, ◌*◌, ◌==◌, List, [], ◌∷◌, ◌++◌}
use Rattle.std.specs.Prelude.{length, filter, Bool, true, false, if◌then◌else◌, Option, Some, None, ⊤}
use Rattle.std.specs.Prelude.{Result, Ok, Err}
use Rattle.cs_history.specs.Plan.{Plan}
use Rattle.cs_history.specs.Names.{jobs_left}
use Rattle.cs_history.specs.Step.{State, after}
use Rattle.cs_history.specs.declared.event.Event.{Event}
use Rattle.cs_history.specs.declared.event.Event.TheVariants.{Minute, Begin, Got, Catch, End, Down, Up}
use Rattle.cs_history.specs.declared.refusal.Refusal.TheVariants.{HistoryFull as Full}
use Rattle.cs_core.specs.Choices.{choices}
use Rattle.cs_keep.specs.Keeping.{Keeping, plan_of, refusal_in, with_event}
use Rattle.cs_keep.specs.Seat.{Place, counted}
use Rattle.cs_keep.specs.declared.tick.Kind.{Kind}
use Rattle.cs_keep.specs.declared.tick.Kind.TheVariants.{Settling, Catching}
use Rattle.cs_keep.specs.declared.tick.TickFault.{TickFault}
use Rattle.cs_keep.specs.declared.tick.TickFault.TheVariants.{ClockBack, HistoryFull, OutOfMemory}

-- to settle, a job that is due begins, or a waiting run gets its lock; to catch up, an anacron job
-- starts
abbrev pub is_of : Kind → Event → Bool
is_of Settling (Minute t) = false
is_of Settling (Begin j) = true
is_of Settling (Got j d) = true
is_of Settling (Catch j) = false
is_of Settling (End r) = false
is_of Settling Down = false
is_of Settling (Up t) = false
is_of Catching (Minute t) = false
is_of Catching (Begin j) = false
is_of Catching (Got j d) = false
is_of Catching (Catch j) = true
is_of Catching (End r) = false
is_of Catching Down = false
is_of Catching (Up t) = false

abbrev pub first : List Event → Option Event
first [] = None
first (e ∷ es) = Some e

abbrev pub next_of : Kind → Plan → State → Option Event
next_of k p s = first (filter (is_of k) (choices p s))

-- the first choice of the kind, and so on from there, until there is none or so many were made
abbrev pub chosen : Kind → Plan → ℕ → State → List Event
chosen k p zero s = []
chosen k p (suc n) s =
    elim (next_of k p s) [ None ↦ [] | Some e ↦ e ∷ chosen k p n (after p s e) ]

-- so many are enough: a Begin takes a pending job and may add a waiting run, a Got takes a waiting
-- run, and a Catch takes a job that is left to the pass
abbrev pub most : Kind → State → ℕ
most Settling s = 2 * length s.pending + length s.waiting
most Catching s = length (jobs_left s.pass)

-- the first choice of the kind until there is none
abbrev pub choosing : Kind → Plan → State → List Event
choosing k p s = chosen k p (most k s) s

abbrev pub after_all : Plan → State → List Event → State
after_all p s [] = s
after_all p s (e ∷ es) = after_all p (after p s e) es

-- until there is none, whatever the plan and the state
abbrev pub ChoicesRunOut : Type 0
ChoicesRunOut =
    (k : Kind) (p : Plan) (s : State) → next_of k p (after_all p s (choosing k p s)) ≡ None

-- these events, and then those that follow in the state that they leave
abbrev pub then_from : Plan → State → List Event → (State → List Event) → List Event
then_from p s es next = es ++ next (after_all p s es)

abbrev pub settling_catching : Plan → State → List Event
settling_catching p s = then_from p s (choosing Settling p s) (choosing Catching p)

-- the core comes up in this minute, and catches up
abbrev pub coming : ℕ → Plan → State → List Event
coming m p s = then_from p s (Up m ∷ []) (choosing Catching p)

-- the minute comes, and what it brings
abbrev pub advancing : ℕ → Plan → State → List Event
advancing m p s = then_from p s (Minute m ∷ []) (settling_catching p)

abbrev pub moving_on : ℕ → Plan → State → List Event
moving_on m p s = then_from p s (choosing Settling p s) (advancing m p)

abbrev pub skipping : ℕ → Plan → State → List Event
skipping m p s = then_from p s (Down ∷ []) (coming m p)

-- The events for a minute that isn't before the present one. A core that is down comes up and
-- catches up. One that is up settles and catches up; before the next minute it settles, too; to a
-- later minute it goes down and comes up.
abbrev pub tick_events : ℕ → Plan → State → List Event
tick_events m p s =
    if s.up then (if m == s.now then settling_catching p s
    else (if m == s.now + 1 then moving_on m p s else skipping m p s))
    else coming m p s

-- a step of the keep, made through a seat
abbrev pub stepped : Keeping × Place → Event → Keeping × Place
stepped t e = (with_event t.0 e, counted t.1 (t.0.total + 1))

abbrev pub stepped_by : Keeping × Place → List Event → Keeping × Place
stepped_by t [] = t
stepped_by t (e ∷ es) = stepped_by (stepped t e) es

-- the journal has no room for the next event
abbrev pub IsFullAt : Keeping → List Event → Type 0
IsFullAt k [] = ⊥
IsFullAt k (e ∷ es) = refusal_in k e ≡ Some Full

-- why no more events were made
abbrev pub IsFault : Keeping → List Event → TickFault → Type 0
IsFault k es ClockBack = ⊥
IsFault k es HistoryFull = IsFullAt k es
IsFault k es OutOfMemory = ⊤

-- the first of these events were made, and then this fault was met
pub record IsCutShort (t : Keeping × Place) (es : List Event) (f : TickFault) (u : Keeping × Place)
    : Type 0 where
  pub made : List Event
  pub rest : List Event
  pub whole : es ≡ made ++ rest
  pub left : u ≡ stepped_by t made
  pub why : IsFault (stepped_by t made).0 rest f

-- these events were made, each as a step, or the first of them were
abbrev pub IsMade : Keeping × Place → List Event → Result (Unit {0}) TickFault → Keeping × Place
    → Type 0
IsMade t es (Ok v) u = u ≡ stepped_by t es
IsMade t es (Err f) u = IsCutShort t es f u

-- the events that a rule lists for the present state
abbrev pub Makes : (Plan → State → List Event) → Keeping × Place → Result (Unit {0}) TickFault
    → Keeping × Place → Type 0
Makes events t r u = IsMade t (events (plan_of t.0) t.0.core.state) r u

-- the present minute isn't `last`, or the new one is before `last`
abbrev pub IsClockBack : State → ℕ → ℕ → Type 0
IsClockBack s last m = (s.now ≢ last) ⊎ (m < last)

abbrev pub IsForward : State → ℕ → ℕ → Type 0
IsForward s last m = (s.now ≡ last) × (last ≤ m)

-- why a tick ended early, and what it left
abbrev pub IsTickFault : Keeping × Place → ℕ → ℕ → TickFault → Keeping × Place → Type 0
IsTickFault t last m ClockBack u = IsClockBack t.0.core.state last m × (u ≡ t)
IsTickFault t last m HistoryFull u = IsForward t.0.core.state last m
    × IsCutShort t (tick_events m (plan_of t.0) t.0.core.state) HistoryFull u
IsTickFault t last m OutOfMemory u = IsForward t.0.core.state last m
    × IsCutShort t (tick_events m (plan_of t.0) t.0.core.state) OutOfMemory u

-- a tick made the events of its minute, or the fault says why not
abbrev pub Ticks : Keeping × Place → ℕ → ℕ → Result (Unit {0}) TickFault → Keeping × Place
    → Type 0
Ticks t last m (Ok v) u = IsForward t.0.core.state last m
    × (u ≡ stepped_by t (tick_events m (plan_of t.0) t.0.core.state))
Ticks t last m (Err f) u = IsTickFault t last m f u
