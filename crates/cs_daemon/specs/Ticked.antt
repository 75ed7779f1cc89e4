-- What a tick leaves, in the events of the journal.
use Rattle.std.specs.Prelude.{◌≡◌, ◌≤◌, ℕ, ◌+◌, List, ◌∷◌, ◌++◌, length, map, Some}
use Rattle.cs_history.specs.declared.event.Event.{Event}
use Rattle.cs_history.specs.declared.refusal.Refusal.TheVariants.{HistoryFull}
use Rattle.cs_keep.specs.Keeping.{Keeping, plan_of, refusal_in}
use Rattle.cs_keep.specs.Seat.{Place}
use Rattle.cs_keep.specs.Tick.{tick_events}

abbrev pub events_of : Keeping → List Event
events_of k = map (λ e. e.0) k.journal

-- a tick from the present minute to that one or a later one: of its events, some came to the
-- journal, each counted once, and the others were left
pub record Wrote (t : Keeping × Place) (last m : ℕ) (u : Keeping × Place) (came left : List Event)
    : Type 0 where
  pub present : t.0.core.state.now ≡ last
  pub forward : last ≤ m
  pub whole : tick_events m (plan_of t.0) t.0.core.state ≡ came ++ left
  pub journal : events_of u.0 ≡ events_of t.0 ++ came
  pub counted : u.1.share ≡ t.1.share + length came

-- the journal is full: it has no room for the next event
pub record IsFull (t : Keeping × Place) (last m : ℕ) (u : Keeping × Place) : Type 0 where
  pub came : List Event
  pub next : Event
  pub later : List Event
  pub wrote : Wrote t last m u came (next ∷ later)
  pub refused : refusal_in u.0 next ≡ Some HistoryFull
