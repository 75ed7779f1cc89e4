-- Which scripts show a plan unsafe, and why another doesn't.
use Rattle.std.specs.Prelude.{◌≡◌, ℕ, ◌+◌, ◌<◌, true, List, ◌∷◌, ◌++◌, Some, length, ⊤}
use Rattle.cs_history.specs.Plan.{Plan, is_cron, IsReached}
use Rattle.cs_history.specs.History.{History, history, ◌▸◌, IsLegal, IsInTime, IsSafe}
use Rattle.cs_history.specs.Step.{state_of, refusal}
use Rattle.cs_history.specs.declared.run.Run.{Run}
use Rattle.cs_history.specs.declared.event.Event.{Event}
use Rattle.cs_history.specs.declared.refusal.Refusal.{Refusal}
use Rattle.cs_history.specs.declared.script.Script.{Script}
use Rattle.cs_counterexample.specs.Break.{first_break}
use Rattle.cs_counterexample.specs.declared.shown.Shown.{Shown}
use Rattle.cs_counterexample.specs.declared.shown.Shown.TheVariants.{Together, Load, Skipped}
use Rattle.cs_counterexample.specs.declared.shown.NotShown.{NotShown}
use Rattle.cs_counterexample.specs.declared.shown.NotShown.TheVariants.{Illegal, Late, NothingBroken, OutOfMemory}

-- the history of a script's events, from its start on
abbrev pub history_of : Script → History
history_of script = history script.start script.events

-- each event of the script is legal, each run ends within its declared time, and something is
-- broken
pub record IsUnsafe (p : Plan) (script : Script) : Type 0 where
  pub legal : IsLegal p (history_of script)
  pub in_time : IsInTime p (history_of script)
  pub unsafe : IsSafe p (history_of script) → ⊥

-- such a script, and what it breaks first
pub record IsShown (p : Plan) (script : Script) (s : Shown) : Type 0 where
  pub unsafe : IsUnsafe p script
  pub first : first_break p (history_of script) ≡ Some s

-- the event with this number, counted from 1, comes after the history h
pub record IsAt (script : Script) (n : ℕ) (h : History) (e : Event) : Type 0 where
  pub front : List Event
  pub rest : List Event
  pub events : script.events ≡ front ++ e ∷ rest
  pub number : n ≡ length front + 1
  pub before : h ≡ history script.start front

-- the event with this number is refused so, after a history that is legal and in time
pub record IsIllegalAt (p : Plan) (script : Script) (n : ℕ) (f : Refusal) : Type 0 where
  pub before : History
  pub event : Event
  pub at : IsAt script n before event
  pub legal : IsLegal p before
  pub in_time : IsInTime p before
  pub refused : refusal p (state_of p before) event ≡ Some f

-- with the event with this number the history is still legal, and for the first time not in time
pub record IsLateAt (p : Plan) (script : Script) (n : ℕ) : Type 0 where
  pub before : History
  pub event : Event
  pub at : IsAt script n before event
  pub legal : IsLegal p (before ▸ event)
  pub in_time : IsInTime p before
  pub late : IsInTime p (before ▸ event) → ⊥

-- the whole script is legal and in time, and breaks nothing
pub record IsHarmless (p : Plan) (script : Script) : Type 0 where
  pub legal : IsLegal p (history_of script)
  pub in_time : IsInTime p (history_of script)
  pub safe : IsSafe p (history_of script)

-- why the script shows nothing
abbrev pub IsNotShown : Plan → Script → NotShown → Type 0
IsNotShown p script (Illegal n f) = IsIllegalAt p script n f
IsNotShown p script (Late n) = IsLateAt p script n
IsNotShown p script NothingBroken = IsHarmless p script
IsNotShown p script OutOfMemory = ⊤

-- one of the plan's jobs, and a minute that a history may reach
abbrev pub IsRunOf : Plan → Run → Type 0
IsRunOf p r = (r.job < p.jobs) × IsReached r.at

-- what is shown has a text: it has such runs, and a skipped one is of a cron job
abbrev pub IsTellable : Plan → Shown → Type 0
IsTellable p (Together r q) = IsRunOf p r × IsRunOf p q
IsTellable p (Load n) = ⊤
IsTellable p (Skipped j t) = (is_cron p j ≡ true) × IsReached t
