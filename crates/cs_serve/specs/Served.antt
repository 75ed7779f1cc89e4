-- What an operator learns of a run from its status, and of its keep.
use Rattle.std.specs.Prelude.{◌≡◌, ◌≢◌, ◌⊎◌, ◌&&◌, ℕ, ◌+◌, ◌<◌, ◌≤◌, List, ◌∷◌, ◌++◌, length, sum, false, not, Option, None, Some, codes}
use Rattle.cs_check.specs.Checked.{plan_in}
use Rattle.cs_check.specs.declared.checked.Checked.{Checked}
use Rattle.cs_civil.specs.Calendar.{last_minute}
use Rattle.cs_daemon.specs.Causes.{IsBack}
use Rattle.cs_daemon.specs.declared.end.DaemonEnd.{DaemonEnd}
use Rattle.cs_device.specs.declared.clock.Tick.TheVariants.{At, Stop}
use Rattle.cs_history.specs.History.{IsInTime, IsLegal, IsSafe, running}
use Rattle.cs_history.specs.Journal.{told}
use Rattle.cs_history.specs.Lists.{EachPair, total}
use Rattle.cs_history.specs.Plan.{both_share, rivals}
use Rattle.cs_history.specs.declared.event.Event.{Event}
use Rattle.cs_history.specs.declared.reply.Reply.{Reply}
use Rattle.cs_keep.specs.Closed.{keeping_in}
use Rattle.cs_keep.specs.Keeping.{Keeping, plan_of}
use Rattle.cs_keep.specs.declared.kept.Kept.{Kept}
use Rattle.cs_files.specs.Ending.{Sink, Tries}
use Rattle.cs_serve.specs.Serve.{Tellings}

-- ---- the events

-- how many events a keep has taken, none where there is no keep
abbrev pub events_in : Option Kept → ℕ
events_in None = 0
events_in (Some kept) = (keeping_in kept).total

-- the clock's thread and as many workers as the capacity made all events, each of them once
pub record AreCounted (checked : Checked) (end : DaemonEnd) : Type 0 where
  pub clock : ℕ
  pub workers : List ℕ
  pub shares : end.shares.items ≡ clock ∷ workers
  pub each : length workers ≡ (plan_in checked).capacity
  pub whole : clock + sum workers ≡ events_in end.keep

-- ---- the journal

-- at each moment of a journal no two runs of one exclusive group ran, two that share its lock
-- excepted, and those that ran weighed at most the capacity
pub record AreApart (k : Keeping) (front : List (Event × Reply)) : Type 0 where
  pub apart : EachPair (λ r q.
      (rivals (plan_of k) q.run.job r.run.job && not (both_share (plan_of k) q.run.job r.run.job))
      ≡ false) (running (plan_of k) (told k.base front))
  pub light : total (λ r. (plan_of k).weight r.run.job) (running (plan_of k) (told k.base front))
      ≤ (plan_of k).capacity

-- The keep has the plan that was checked, and its journal is a legal history of it. If each run in
-- it has ended within its declared time, it is safe, and so it was at each moment.
pub record IsOrdered (checked : Checked) (k : Keeping) : Type 0 where
  pub plan : k.core.plan ≡ plan_in checked
  pub legal : IsLegal (plan_of k) (told k.base k.journal)
  pub safe : IsInTime (plan_of k) (told k.base k.journal)
      → IsSafe (plan_of k) (told k.base k.journal)
  pub apart : IsInTime (plan_of k) (told k.base k.journal)
      → (front rest : List (Event × Reply)) → k.journal ≡ front ++ rest → AreApart k front

-- ---- by the status

-- The clock said to stop: each minute later than all before but the first brought an event, so
-- there is a keep if there was a second. Or the last minute has come, which is reported, and there
-- is a keep.
abbrev pub IsDone : Tellings → DaemonEnd → Sink → Sink → Type 0
IsDone after end old new =
    ((after.last ≡ Some Stop) × (after.risen ≤ events_in end.keep + 1)
    × (2 ≤ after.risen → end.keep ≢ None))
    ⊎ ((after.last ≡ Some (At last_minute)) × (end.keep ≢ None)
    × Tries (codes "cronsafe: the last minute of 9999 has come\n") old new)

-- there is a keep, the history of which is full, and that is reported
abbrev pub IsFull : DaemonEnd → Sink → Sink → Type 0
IsFull end old new =
    (end.keep ≢ None) × Tries (codes "cronsafe: the history is full\n") old new

-- the clock couldn't be read, or went back, which is reported
abbrev pub HasNoClock : Tellings → Sink → Sink → Type 0
HasNoClock after old new =
    ((0 < after.clock_failures) × Tries (codes "cronsafe: can't read the clock\n") old new)
    ⊎ (IsBack after.top after.last
    × Tries (codes "cronsafe: the clock went back, or is before 1970-01-04\n") old new)
