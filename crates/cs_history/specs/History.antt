-- Histories: what may come next, what a history leaves, and when it is in time and safe.
use Rattle.std.specs.Prelude.{◌≡◌, ℕ, ◌+◌, ◌-◌, ◌%◌, ◌/◌, ◌<◌, ◌≤◌, ◌≢◌, Bool, true, false, not, ◌&&◌, List, [], ◌∷◌, ◌++◌, Option, Some, None, if◌then◌else◌, ◌==◌, filter, set, get_or, take, replicate, ⊤, fold}
use Rattle.std.specs.List.{AllByRecursion, list_any}
use Rattle.cs_history.specs.Lists.{total, EachPair}
use Rattle.cs_history.specs.Plan.{Plan, is_cron, in_the_way, rivals, both_share, due_at, is_pass_minute, by_delay, IsCivil, IsReached}
use Rattle.cs_history.specs.declared.run.Run.{Run}
use Rattle.cs_history.specs.declared.run.Going.{Going}
use Rattle.cs_history.specs.declared.event.Event.{Event}
use Rattle.cs_history.specs.declared.event.Event.TheVariants.{Minute, Begin, Got, Catch, End, Down, Up}
use Rattle.cs_history.specs.declared.mode.Mode.{Mode}
use Rattle.cs_history.specs.declared.mode.Mode.TheVariants.{Plain, Skip, Try, Wait, Shared}

-- the minute at which a history starts, up or down, and the anacron stamps; nothing runs
pub record Start : Type 0 where
  pub now : ℕ
  pub up : Bool
  pub stamps : List (Option ℕ)

-- a start and the events since, the latest last
infixl 20 ◌▸◌
pub data History : Type 0 where
  From : Start → History
  ◌▸◌ : History → Event → History

abbrev pub history : Start → List Event → History
history s es = fold (λ h e. h ▸ e) (From s) es

abbrev pub run_of : ℕ → ℕ → Run
run_of j d = record { job = j; at = d }

abbrev pub same_run : Run → Run → Bool
same_run r q = (r.job == q.job) && (r.at == q.at)

-- the run of job j due at minute d that started in minute t
abbrev pub going : ℕ → ℕ → ℕ → Going
going j d t = record { run = run_of j d; since = t }

-- the present minute, which an outage doesn't move on
abbrev pub now : History → ℕ
now (From s) = s.now
now (h ▸ Minute t) = t
now (h ▸ Up t) = t
now (h ▸ e) = now h

abbrev pub is_up : History → Bool
is_up (From s) = s.up
is_up (h ▸ Down) = false
is_up (h ▸ Up t) = true
is_up (h ▸ e) = is_up h

-- where these runs go on, the lock of the job is free for it
abbrev pub is_free : Plan → List Going → ℕ → Bool
is_free p rs j = not (list_any (λ r. in_the_way p j r.run.job) rs)

-- what the Begin of a job leads to
pub data Answer : Type 0 where
  Starts : Answer
  Waits : Answer
  Skips : Answer

-- if the lock is held (flock(1)), -n skips, flock alone and -s wait; without a lock a job starts
abbrev pub when_held : Mode → Answer
when_held Plain = Starts
when_held Skip = Skips
when_held Try = Skips
when_held Wait = Waits
when_held Shared = Waits

-- the answer where these runs go on
abbrev pub answer : Plan → List Going → ℕ → Answer
answer p rs j = if is_free p rs j then Starts else when_held (p.mode j)

abbrev pub with_started : Answer → List Going → Going → List Going
with_started Starts rs r = rs ++ r ∷ []
with_started Waits rs r = rs
with_started Skips rs r = rs

abbrev pub with_waiting : Answer → List Run → Run → List Run
with_waiting Starts ws w = ws
with_waiting Waits ws w = ws ++ w ∷ []
with_waiting Skips ws w = ws

-- the runs that have started and not ended, in order of start; going down ends none (cron(8))
abbrev pub running : Plan → History → List Going
running p (From s) = []
running p (h ▸ Begin j) =
    with_started (answer p (running p h) j) (running p h) (going j (now h) (now h))
running p (h ▸ Got j d) = running p h ++ going j d (now h) ∷ []
running p (h ▸ Catch j) = running p h ++ going j (now h) (now h) ∷ []
running p (h ▸ End r) = filter (λ x. not (same_run r x.run)) (running p h)
running p (h ▸ e) = running p h

-- the jobs due at the last Minute that have not begun since (cron(8)): what is due in an outage is
-- lost, and a daemon that comes up in a minute starts nothing due at it
abbrev pub pending : Plan → History → List ℕ
pending p (From s) = []
pending p (h ▸ Minute t) = due_at p t
pending p (h ▸ Begin j) = filter (λ i. not (j == i)) (pending p h)
pending p (h ▸ Down) = []
pending p (h ▸ Up t) = []
pending p (h ▸ e) = pending p h

-- the runs that wait for a lock (flock(1)), in order of Begin; going down ends the waiting
abbrev pub waiting : Plan → History → List Run
waiting p (From s) = []
waiting p (h ▸ Begin j) = with_waiting (answer p (running p h) j) (waiting p h) (run_of j (now h))
waiting p (h ▸ Got j d) = filter (λ w. not (same_run (run_of j d) w)) (waiting p h)
waiting p (h ▸ Down) = []
waiting p (h ▸ Up t) = []
waiting p (h ▸ e) = waiting p h

-- one stamp for each anacron job (anacron(8)): at first that of the start, or none if the start has
-- too few; when a run ends, the day on which it started
abbrev pub stamps : Plan → History → List (Option ℕ)
stamps p (From s) = take (p.jobs - p.crons) (s.stamps ++ replicate (p.jobs - p.crons) None)
stamps p (h ▸ End r) =
    if is_cron p r.job then stamps p h else set (stamps p h) (r.job - p.crons) (Some (r.at / 1440))
stamps p (h ▸ e) = stamps p h

-- an open pass: its minute, and the jobs that it has still to start
pub record Pass : Type 0 where
  pub at : ℕ
  pub left : List ℕ

abbrev pub pass_of : ℕ → List ℕ → Option Pass
pass_of t [] = None
pass_of t (j ∷ js) = Some (record { at = t; left = j ∷ js })

-- the jobs of a pass that begins at minute t: due that day and not running, by delay, then line
abbrev pub owed_at : Plan → List (Option ℕ) → List Going → ℕ → List ℕ
owed_at p ss rs t = filter (λ j.
    p.owed j (get_or ss (j - p.crons) None) (t / 1440) && not (list_any (λ r. r.run.job == j) rs))
    (by_delay p)

-- an open pass stays; else a new one begins where one has to
abbrev pub opened : Option Pass → Bool → Option Pass → Option Pass
opened (Some o) b n = Some o
opened None b n = if b then n else None

abbrev pub without_first : Option Pass → Option Pass
without_first None = None
without_first (Some o) = elim o.left [ [] ↦ None | j ∷ js ↦ pass_of o.at js ]

-- the open pass (anacron(8) with -s): one begins at a coming up and at the pass minute, and ends
-- when its last job has started, or at a going down
abbrev pub pass : Plan → History → Option Pass
pass p (From s) = None
pass p (h ▸ Minute t) =
    opened (pass p h) (is_pass_minute p t) (pass_of t (owed_at p (stamps p h) (running p h) t))
pass p (h ▸ Catch j) = without_first (pass p h)
pass p (h ▸ Down) = None
pass p (h ▸ Up t) = opened (pass p h) true (pass_of t (owed_at p (stamps p h) (running p h) t))
pass p (h ▸ e) = pass p h

-- nothing is pending, and no waiter's lock is free
pub record IsSettled (p : Plan) (h : History) : Type 0 where
  pub begun : pending p h ≡ []
  pub held : list_any (λ w. is_free p (running p h) w.job) (waiting p h) ≡ false

pub record MayMinute (p : Plan) (h : History) (t : ℕ) : Type 0 where
  pub up : is_up h ≡ true
  pub civil : IsCivil t
  pub next : t ≡ now h + 1
  pub settled : IsSettled p h

pub record MayBegin (p : Plan) (h : History) (j : ℕ) : Type 0 where
  pub up : is_up h ≡ true
  pub is_pending : list_any (λ i. j == i) (pending p h) ≡ true

-- any waiter may get a free lock (flock(1) promises no order)
pub record MayGet (p : Plan) (h : History) (r : Run) : Type 0 where
  pub up : is_up h ≡ true
  pub is_waiting : list_any (same_run r) (waiting p h) ≡ true
  pub free : is_free p (running p h) r.job ≡ true

-- the first job of the open pass may start once its delay is over, in the catch-up hours, and while
-- no anacron job runs (anacron(8) with -s)
pub record MayCatch (p : Plan) (h : History) (j : ℕ) : Type 0 where
  pub up : is_up h ≡ true
  pub begun : ℕ
  pub after : List ℕ
  pub first : pass p h ≡ Some (record { at = begun; left = j ∷ after })
  pub delay : begun + p.delay j ≤ now h
  pub alone : list_any (λ r. not (is_cron p r.run.job)) (running p h) ≡ false
  pub from : p.from ≤ now h % 1440
  pub to : now h % 1440 < p.to

pub record MayUp (h : History) (t : ℕ) : Type 0 where
  pub down : is_up h ≡ false
  pub civil : IsCivil t
  pub later : now h ≤ t

-- the event may come next
abbrev pub May : Plan → History → Event → Type 0
May p h (Minute t) = MayMinute p h t
May p h (Begin j) = MayBegin p h j
May p h (Got j d) = MayGet p h (run_of j d)
May p h (Catch j) = MayCatch p h j
May p h (End r) = list_any (λ x. same_run r x.run) (running p h) ≡ true
May p h Down = is_up h ≡ true
May p h (Up t) = MayUp h t

-- the start is a minute that a history may reach, and each event might come when it came
abbrev pub IsLegal : Plan → History → Type 0
IsLegal p (From s) = IsReached s.now
IsLegal p (h ▸ e) = IsLegal p h × May p h e

-- at t the run has not used up its declared time
abbrev pub IsWithin : Plan → ℕ → Going → Type 0
IsWithin p t r = t < r.since + p.limit r.run.job

-- at each minute that is reached, each run has ended or is within its declared time, also across an
-- outage
abbrev pub IsInTime : Plan → History → Type 0
IsInTime p (From s) = ⊤
IsInTime p (h ▸ Minute t) = IsInTime p h × AllByRecursion (IsWithin p t) (running p h)
IsInTime p (h ▸ Up t) = IsInTime p h × AllByRecursion (IsWithin p t) (running p h)
IsInTime p (h ▸ e) = IsInTime p h

-- of two runs of an exclusive group that run at once, both share its lock; and together all runs
-- weigh at most the capacity
pub record IsSafeNow (p : Plan) (h : History) : Type 0 where
  pub apart : EachPair
      (λ r q. (rivals p q.run.job r.run.job && not (both_share p q.run.job r.run.job)) ≡ false)
      (running p h)
  pub load : total (λ r. p.weight r.run.job) (running p h) ≤ p.capacity

-- no Begin of mode skip that is skipped; one of mode try may be
abbrev pub IsNoSkip : Plan → History → Event → Type 0
IsNoSkip p h (Begin j) = p.mode j ≡ Skip → answer p (running p h) j ≢ Skips
IsNoSkip p h e = ⊤

-- from the start on, after each event
abbrev pub IsSafe : Plan → History → Type 0
IsSafe p (From s) = IsSafeNow p (From s)
IsSafe p (h ▸ e) = IsSafe p h × IsSafeNow p (h ▸ e) × IsNoSkip p h e
