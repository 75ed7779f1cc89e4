use Rattle.std.specs.Prelude.{◌≡◌, ℕ, ◌+◌, ◌≤◌, Bool, true, false, List, [], ◌∷◌, Option, Some, None, if◌then◌else◌, nat_le, ⊤}
use Rattle.std.specs.List.{AllByRecursion, list_any}
use Rattle.std.specs.Option.{option_or}
use Rattle.cs_plan.specs.Plan.{Declared, as_plan}
use Rattle.cs_history.specs.Plan.{Plan}
use Rattle.cs_history.specs.History.{Start, From, run_of}
use Rattle.cs_history.specs.Step.{State, state_of, after, refusal}
use Rattle.cs_history.specs.declared.run.Run.{Run}
use Rattle.cs_history.specs.declared.run.Going.{Going}
use Rattle.cs_history.specs.declared.event.Event.{Event}
use Rattle.cs_history.specs.declared.event.Event.TheVariants.{Minute, Begin, Got, Catch, End, Down, Up}
use Rattle.cs_history.specs.declared.reply.Reply.{Reply}
use Rattle.cs_history.specs.declared.reply.Reply.TheVariants as replies
use Rattle.cs_history.specs.declared.refusal.Refusal.{Refusal}
use Rattle.cs_history.specs.declared.refusal.Refusal.TheVariants as refusals
use Rattle.cs_counterexample.specs.Break.{clash, weight_of, overload, break_among, skip_by, skip_shown}
use Rattle.cs_counterexample.specs.declared.shown.Shown.{Shown}
use Rattle.cs_counterexample.specs.declared.shown.Shown.TheVariants.{Together}
use Rattle.cs_counterexample.specs.declared.shown.NotShown.{NotShown}
use Rattle.cs_counterexample.specs.declared.shown.NotShown.TheVariants.{Illegal, Late, NothingBroken, OutOfMemory}

-- the plan, the state that its events have left, and what they broke first
pub record Tried : Type 0 where
  pub plan : Declared
  pub state : State
  pub shown : Option Shown

-- no event yet
abbrev pub opening : Declared → Start → Tried
opening d start = record { plan = d; state = state_of (as_plan d) (From start); shown = None }

-- a run is over its declared time at minute t
abbrev pub any_over : Plan → List Going → ℕ → Bool
any_over p rs t = list_any (λ r. nat_le (r.since + p.limit r.run.job) t) rs

-- the event finds such a run; time passes only at a minute and at a coming up
abbrev pub is_late : Plan → List Going → Event → Bool
is_late p rs (Minute t) = any_over p rs t
is_late p rs (Begin j) = false
is_late p rs (Got j d) = false
is_late p rs (Catch j) = false
is_late p rs (End r) = false
is_late p rs Down = false
is_late p rs (Up t) = any_over p rs t

-- what the event breaks in this state
abbrev pub break_from : Plan → State → Event → Option Shown
break_from p s e = option_or (break_among p (after p s e).running) (skip_by p s.running s.now e)

-- the event was taken
pub record IsTaken (p : Plan) (e : Event) (old new : Tried) : Type 0 where
  pub plan : new.plan ≡ old.plan
  pub legal : refusal p old.state e ≡ None
  pub in_time : is_late p old.state.running e ≡ false
  pub state : new.state ≡ after p old.state e
  pub shown : new.shown ≡ option_or old.shown (break_from p old.state e)

-- why the event with this number isn't taken
abbrev pub Stops : Plan → State → Event → ℕ → NotShown → Type 0
Stops p s e n (Illegal k f) = (k ≡ n) × (refusal p s e ≡ Some f)
Stops p s e n (Late k) = (k ≡ n) × (refusal p s e ≡ None) × (is_late p s.running e ≡ true)
Stops p s e n NothingBroken = ⊥
Stops p s e n OutOfMemory = ⊤

abbrev pub run_by : Event → ℕ → Option Run
run_by (Minute t) now = None
run_by (Begin j) now = Some (run_of j now)
run_by (Got j d) now = Some (run_of j d)
run_by (Catch j) now = Some (run_of j now)
run_by (End r) now = None
run_by Down now = None
run_by (Up t) now = None

abbrev pub clash_before : Plan → List Going → Run → Option Shown
clash_before p [] q = None
clash_before p (r ∷ rs) q =
    if clash p r.run.job q.job then Some (Together r.run q) else clash_before p rs q

-- what the run breaks by starting after these, which break nothing
abbrev pub break_by_run : Plan → List Going → Run → Option Shown
break_by_run p rs r = option_or (clash_before p rs r) (overload p (weight_of p rs + p.weight r.job))

-- the same, worked out only if nothing was broken before
abbrev pub break_by_start : Plan → Option Shown → List Going → Option Run → Option Shown
break_by_start p (Some s) rs run = None
break_by_start p None rs None = None
break_by_start p None rs (Some r) = break_by_run p rs r

abbrev pub break_at_start : Tried → Option Run → Option Shown
break_at_start t run = break_by_start (as_plan t.plan) t.shown t.state.running run

-- what the run breaks by being skipped
abbrev pub break_by_skip : Plan → Option Run → Option Shown
break_by_skip p None = None
break_by_skip p (Some r) = skip_shown p r.job r.at

-- what an event with this reply breaks, if its run would break `at_start`
abbrev pub break_by_reply : Plan → Reply → Option Run → Option Shown → Option Shown
break_by_reply p replies.Clock run at_start = None
break_by_reply p (replies.Started r) run at_start = at_start
break_by_reply p replies.Waiting run at_start = None
break_by_reply p replies.Skipped run at_start = break_by_skip p run
break_by_reply p (replies.Ended b) run at_start = None
break_by_reply p replies.Went run at_start = None
break_by_reply p replies.Came run at_start = None

-- none of these is over its declared time before minute d
abbrev pub IsDeadline : Plan → ℕ → List Going → Type 0
IsDeadline p d rs = AllByRecursion (λ r. d ≤ r.since + p.limit r.run.job) rs

-- what a trial knows of the runs: a deadline, and that they break nothing while nothing is known to
-- be broken
abbrev pub Watches : Plan → ℕ → Option Shown → List Going → Type 0
Watches p d shown rs = IsDeadline p d rs × (shown ≡ None → break_among p rs ≡ None)

-- the deadline after an event with this reply
abbrev pub IsNextDeadline : Plan → ℕ → Reply → ℕ → ℕ → Type 0
IsNextDeadline p d (replies.Started r) now n = (n ≤ d) × (n ≤ now + p.limit r.job)
IsNextDeadline p d replies.Clock now n = n ≡ d
IsNextDeadline p d replies.Waiting now n = n ≡ d
IsNextDeadline p d replies.Skipped now n = n ≡ d
IsNextDeadline p d (replies.Ended b) now n = n ≡ d
IsNextDeadline p d replies.Went now n = n ≡ d
IsNextDeadline p d replies.Came now n = n ≡ d

abbrev pub fault_of : ℕ → Refusal → NotShown
fault_of n refusals.OutOfMemory = OutOfMemory
fault_of n f = Illegal n f
