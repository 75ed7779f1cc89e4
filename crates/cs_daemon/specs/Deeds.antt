-- What becomes of starts over the life of a daemon.
use Rattle.std.specs.Prelude.{◌≡◌, List, [], ◌∷◌, ◌++◌, Option, Some, None}
use Rattle.std.specs.List.{flat_map}
use Rattle.cs_history.specs.declared.run.Run.{Run}
use Rattle.cs_history.specs.declared.event.Event.{Event}
use Rattle.cs_history.specs.declared.reply.Reply.{Reply}
use Rattle.cs_daemon.specs.InTurn.{InTurn}
use Rattle.cs_daemon.specs.Starts.{Desk, IsCut, IsTaken, empty, starts_in, untaken, with_entries}

-- what is done to a journal under the lock: entries come to it, a worker asks for a start and gets
-- one or none, or it may begin anew
pub data Deed : Type 0 where
  Enters : (more : List (Event × Reply)) → Deed
  Asks : (got : Option Run) → Deed
  Cuts : Deed

abbrev pub Does : Desk → Deed → Desk → Type 0
Does old (Enters more) new = new ≡ with_entries more old
Does old (Asks got) new = IsTaken old got new
Does old Cuts new = IsCut old new

abbrev pub got_by : Deed → List Run
got_by (Enters more) = []
got_by (Asks None) = []
got_by (Asks (Some run)) = run ∷ []
got_by Cuts = []

-- the starts that workers got, in order
abbrev pub got : List Deed → List Run
got deeds = flat_map got_by deeds

abbrev pub started_by : Deed → List Run
started_by (Enters more) = starts_in more
started_by (Asks run) = []
started_by Cuts = []

-- the starts that came to the journals, in order
abbrev pub started : List Deed → List Run
started deeds = flat_map started_by deeds

-- what workers got, then what is still to be taken, are the starts of all journals: each is handed
-- out at most once, in order, and none is lost
abbrev pub AreHandedOut : Type 0
AreHandedOut = (deeds : List Deed) (last : Desk) → InTurn Does deeds empty last
    → got deeds ++ untaken last ≡ started deeds
