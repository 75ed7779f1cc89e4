-- The starts of a journal, which workers take one after the other.
use Rattle.std.specs.Prelude.{◌≡◌, ◌≤◌, ◌⊎◌, ℕ, List, [], ◌∷◌, ◌++◌, length, drop, false, find, if◌then◌else◌, Option, MatchOption, Result, option_map, unwrap_or}
use Rattle.std.specs.List.{AllByRecursion, flat_map, list_any}
use Rattle.cs_history.specs.History.{same_run}
use Rattle.cs_history.specs.declared.run.Run.{Run}
use Rattle.cs_history.specs.declared.run.Going.{Going}
use Rattle.cs_history.specs.declared.event.Event.{Event}
use Rattle.cs_history.specs.declared.event.Event.TheVariants as event
use Rattle.cs_history.specs.declared.reply.Reply.{Reply}
use Rattle.cs_history.specs.declared.reply.Reply.TheVariants.{Clock, Started, Waiting, Skipped, Ended, Went, Came}
use Rattle.cs_keep.specs.Keeping.{Keeping, cut_here, is_end, with_event}
use Rattle.cs_keep.specs.Seat.{Place}
use Rattle.cs_keep.specs.Tick.{Ticks}
use Rattle.cs_keep.specs.declared.tick.TickFault.{TickFault}

abbrev pub start_in : Reply → List Run
start_in Clock = []
start_in (Started run) = run ∷ []
start_in Waiting = []
start_in Skipped = []
start_in (Ended in_time) = []
start_in Went = []
start_in Came = []

-- the runs that entries of a journal start, in order
abbrev pub starts_in : List (Event × Reply) → List Run
starts_in entries = flat_map (λ e. start_in e.1) entries

-- a journal, and the place from which on its starts aren't taken yet
pub record Desk : Type 0 where
  pub journal : List (Event × Reply)
  pub next : ℕ

abbrev pub desk : Keeping → ℕ → Desk
desk k next = record { journal = k.journal; next = next }

-- before the first event
abbrev pub empty : Desk
empty = record { journal = []; next = 0 }

-- the starts that no worker has taken, in order
abbrev pub untaken : Desk → List Run
untaken d = starts_in (drop d.next d.journal)

-- a worker gets the first of them; it gets none only if there is none
pub record IsTaken (old : Desk) (got : Option Run) (new : Desk) : Type 0 where
  pub journal : new.journal ≡ old.journal
  pub place : new.next ≤ length new.journal
  pub first : MatchOption got
      ((untaken old ≡ []) × (untaken new ≡ []))
      (λ run. untaken old ≡ run ∷ untaken new)

-- the minute in which a run began; that of its name, if it doesn't run
abbrev pub since_in : List Going → Run → ℕ
since_in running run =
    unwrap_or (option_map (λ x. x.since) (find (λ x. same_run run x.run) running)) run.at

abbrev pub with_entries : List (Event × Reply) → Desk → Desk
with_entries more d = record { journal = d.journal ++ more; next = d.next }

-- the journal begins anew, if each start was taken; or all stays
abbrev pub IsCut : Desk → Desk → Type 0
IsCut old new = ((untaken old ≡ []) × (new ≡ empty)) ⊎ (new ≡ old)

-- none of the entries is an end
abbrev pub HaveNoEnd : List (Event × Reply) → Type 0
HaveNoEnd entries = AllByRecursion (λ e. is_end e.0 ≡ false) entries

-- entries without an end come to the journal, and then it may begin anew
abbrev pub Rounds : Desk → Desk → Type 0
Rounds old new = (more : List (Event × Reply)) × HaveNoEnd more × IsCut (with_entries more old) new

-- a round of the clock's thread, from one place in the journal to another: the keep ticks, and then
-- its journal may begin anew
pub record IsRound (old : Keeping × Place) (from last minute : ℕ)
    (ticked : Result (Unit {0}) TickFault) (new : Keeping × Place) (to : ℕ) : Type 0 where
  pub between : Keeping
  pub ticks : Ticks old last minute ticked (between, new.1)
  pub keep : (new.0 ≡ cut_here between) ⊎ (new.0 ≡ between)
  pub cut : IsCut (desk between from) (desk new.0 to)

-- the end of a run is made if the run goes on; else all stays
abbrev pub with_end : Keeping → Run → Keeping
with_end k run =
    if list_any (λ x. same_run run x.run) k.core.state.running
    then with_event k (event.End run) else k
