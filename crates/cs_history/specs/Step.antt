-- The state after a history; for a state and an event the next state, the reply and the refusal.
use Rattle.std.specs.Prelude.{◌≡◌, ℕ, ◌+◌, ◌-◌, ◌%◌, ◌/◌, Bool, true, false, not, ◌&&◌, List, [], ◌∷◌, ◌++◌, Option, Some, None, if◌then◌else◌, nat_lt, nat_le, ◌==◌, filter, set, Result, Ok, Err}
use Rattle.std.specs.List.{list_any}
use Rattle.cs_civil.specs.Calendar.{first_minute, last_minute}
use Rattle.cs_history.specs.Plan.{Plan, is_cron, due_at, is_pass_minute}
use Rattle.cs_history.specs.History.{History, ◌▸◌, now, is_up, pending, waiting, running, stamps, pass, Pass, pass_of, opened, owed_at, without_first, run_of, same_run, is_free, going, Answer, Starts, Waits, Skips, answer, with_started, with_waiting, May}
use Rattle.cs_history.specs.declared.run.Run.{Run}
use Rattle.cs_history.specs.declared.run.Going.{Going}
use Rattle.cs_history.specs.declared.event.Event.{Event}
use Rattle.cs_history.specs.declared.event.Event.TheVariants.{Minute, Begin, Got, Catch, End, Down, Up}
use Rattle.cs_history.specs.declared.reply.Reply.{Reply}
use Rattle.cs_history.specs.declared.reply.Reply.TheVariants.{Clock, Started, Waiting, Skipped, Ended, Went, Came}
use Rattle.cs_history.specs.declared.refusal.Refusal.{Refusal}
use Rattle.cs_history.specs.declared.refusal.Refusal.TheVariants.{NotUp, AlreadyUp, WrongMinute, NotSettled, NotDue, LockHeld, NotWaiting, NotRunning, NotCatchable, OutOfRange, OutOfMemory}

-- all that later events are judged by
pub record State : Type 0 where
  pub now : ℕ
  pub up : Bool
  pub pending : List ℕ
  pub waiting : List Run
  pub running : List Going
  pub stamps : List (Option ℕ)
  pub pass : Option Pass

abbrev pub state_of : Plan → History → State
state_of p h = record {
  now = now h;
  up = is_up h;
  pending = pending p h;
  waiting = waiting p h;
  running = running p h;
  stamps = stamps p h;
  pass = pass p h;
}

abbrev pub after : Plan → State → Event → State
after p s (Minute t) = record s {
  now = t;
  pending = due_at p t;
  pass = opened s.pass (is_pass_minute p t) (pass_of t (owed_at p s.stamps s.running t));
}
after p s (Begin j) = record s {
  pending = filter (λ i. not (j == i)) s.pending;
  waiting = with_waiting (answer p s.running j) s.waiting (run_of j s.now);
  running = with_started (answer p s.running j) s.running (going j s.now s.now);
}
after p s (Got j d) = record s {
  waiting = filter (λ w. not (same_run (run_of j d) w)) s.waiting;
  running = s.running ++ going j d s.now ∷ [];
}
after p s (Catch j) =
    record s { running = s.running ++ going j s.now s.now ∷ []; pass = without_first s.pass }
after p s (End r) = record s {
  running = filter (λ x. not (same_run r x.run)) s.running;
  stamps = if is_cron p r.job then s.stamps
      else set s.stamps (r.job - p.crons) (Some (r.at / 1440));
}
after p s Down = record s { up = false; pending = []; waiting = []; pass = None }
after p s (Up t) = record s {
  now = t;
  up = true;
  pending = [];
  waiting = [];
  pass = opened s.pass true (pass_of t (owed_at p s.stamps s.running t));
}

abbrev pub is_civil : ℕ → Bool
is_civil t = nat_le first_minute t && nat_le t last_minute

abbrev pub is_nothing : List ℕ → Bool
is_nothing [] = true
is_nothing (j ∷ js) = false

-- nothing is pending, and no waiter's lock is free
abbrev pub is_settled : Plan → State → Bool
is_settled p s = is_nothing s.pending && not (list_any (λ w. is_free p s.running w.job) s.waiting)

-- the job is the first of these, and its delay since the pass began is over
abbrev pub is_first : Plan → ℕ → ℕ → List ℕ → ℕ → Bool
is_first p t at [] j = false
is_first p t at (i ∷ is) j = (i == j) && nat_le (at + p.delay j) t

abbrev pub is_turn : Plan → ℕ → Option Pass → ℕ → Bool
is_turn p t None j = false
is_turn p t (Some o) j = is_first p t o.at o.left j

-- it is the job's turn, no anacron job runs, and the minute is in the catch-up hours
abbrev pub is_catchable : Plan → State → ℕ → Bool
is_catchable p s j = is_turn p s.now s.pass j
    && not (list_any (λ r. not (is_cron p r.run.job)) s.running) && nat_le p.from (s.now % 1440)
    && nat_lt (s.now % 1440) p.to

abbrev pub unless : Bool → Refusal → Option Refusal → Option Refusal
unless b f rest = if b then rest else Some f

-- the refusal that comes first; None where the event may come
abbrev pub refusal : Plan → State → Event → Option Refusal
refusal p s (Minute t) = unless s.up NotUp
    (unless (is_civil t) OutOfRange
    (unless (t == s.now + 1) WrongMinute (unless (is_settled p s) NotSettled None)))
refusal p s (Begin j) = unless s.up NotUp (unless (list_any (λ i. j == i) s.pending) NotDue None)
refusal p s (Got j d) = unless s.up NotUp
    (unless (list_any (same_run (run_of j d)) s.waiting) NotWaiting
    (unless (is_free p s.running j) LockHeld None))
refusal p s (Catch j) = unless s.up NotUp (unless (is_catchable p s j) NotCatchable None)
refusal p s (End r) = unless (list_any (λ x. same_run r x.run) s.running) NotRunning None
refusal p s Down = unless s.up NotUp None
refusal p s (Up t) = unless (not s.up) AlreadyUp
    (unless (is_civil t) OutOfRange (unless (nat_le s.now t) WrongMinute None))

-- whether the run is within its declared time now
abbrev pub is_in_time : Plan → ℕ → Run → List Going → Bool
is_in_time p t r [] = true
is_in_time p t r (x ∷ xs) =
    if same_run r x.run then nat_lt t (x.since + p.limit r.job) else is_in_time p t r xs

abbrev pub said : Answer → Run → Reply
said Starts r = Started r
said Waits r = Waiting
said Skips r = Skipped

abbrev pub reply : Plan → State → Event → Reply
reply p s (Minute t) = Clock
reply p s (Begin j) = said (answer p s.running j) (run_of j s.now)
reply p s (Got j d) = Started (run_of j d)
reply p s (Catch j) = Started (run_of j s.now)
reply p s (End r) = Ended (is_in_time p s.now r s.running)
reply p s Down = Went
reply p s (Up t) = Came

-- an error is the first refusal; where there is none, OutOfMemory
abbrev pub IsFirst : Refusal → Option Refusal → Type 0
IsFirst f None = f ≡ OutOfMemory
IsFirst f (Some g) = f ≡ g

-- what one call does to a state
abbrev pub Steps : Plan → State → Event → Result Reply Refusal → State → Type 0
Steps p s e (Ok r) n = (refusal p s e ≡ None) × (r ≡ reply p s e) × (n ≡ after p s e)
Steps p s e (Err f) n = IsFirst f (refusal p s e) × (n ≡ s)

-- and to every history that the state stands for
abbrev pub Follows : Plan → History → Event → Result Reply Refusal → State → Type 0
Follows p h e (Ok r) n = May p h e × (r ≡ reply p (state_of p h) e) × (n ≡ state_of p (h ▸ e))
Follows p h e (Err f) n = IsFirst f (refusal p (state_of p h) e) × (n ≡ state_of p h)
