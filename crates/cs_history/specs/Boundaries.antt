-- Small histories on both sides of where a definition ends.
use Rattle.std.specs.Prelude.{◌≡◌, ℕ, ◌+◌, ◌<◌, [], ◌∷◌, true}
use Rattle.cs_history.specs.Plan.{Plan, rivals}
use Rattle.cs_history.specs.History.{History, IsInTime, history, run_of, running}
use Rattle.cs_history.specs.Examples.{at, at_of, hourly, plan_of}
use Rattle.cs_history.specs.declared.event.Event.TheVariants.{Minute, Begin, End, Got}
use Rattle.cs_history.specs.declared.mode.Mode.TheVariants.{Skip, Wait}
use Rattle.cs_history.specs.declared.run.Going.{Going}

-- the history is in time, and one run is running after it
pub record RunsAlone (p : Plan) (h : History) (r : Going) : Type 0 where
  pub in_time : IsInTime p h
  pub running : running p h ≡ r ∷ []
  pub some : 0 < p.limit r.run.job

-- the first minute in which the run may not go on
abbrev pub over_at : Plan → Going → ℕ
over_at p r = r.since + p.limit r.run.job

-- two runs are running after the history, of jobs of one exclusive group
pub record RunTogether (p : Plan) (h : History) (r q : Going) : Type 0 where
  pub running : running p h ≡ r ∷ q ∷ []
  pub rivals : rivals p q.run.job r.run.job ≡ true

-- two jobs of an exclusive group that take no lock, both due at 00:01 for ten minutes
abbrev pub unlocked : Plan
unlocked = plan_of 2 [] (at_of (1 ∷ 1 ∷ [])) 3 true (λ _. 10) 1

-- both begin on 1970-01-04
abbrev pub both_unlocked : History
both_unlocked = history (record { now = 4320; up = true; stamps = [] })
    (Minute 4321 ∷ Begin 0 ∷ Begin 1 ∷ [])

-- two jobs that wait for a lock and a skip job, all due at each full hour
abbrev pub at_one_lock : Plan
at_one_lock = hourly (0 ∷ 0 ∷ 0 ∷ []) (Wait ∷ Wait ∷ Skip ∷ []) (20 ∷ 20 ∷ 20 ∷ [])

-- the first has ended, the second waits, and the third begins
abbrev pub newcomer : History
newcomer = history (record { now = at 59; up = true; stamps = [] })
    (Minute (at 60) ∷ Begin 0 ∷ Begin 1 ∷ End (run_of 0 (at 60)) ∷ Begin 2 ∷ [])

-- three jobs that wait for a lock, all due at each full hour
abbrev pub in_a_queue : Plan
in_a_queue = hourly (0 ∷ 0 ∷ 0 ∷ []) (Wait ∷ Wait ∷ Wait ∷ []) (20 ∷ 20 ∷ 20 ∷ [])

-- the first has ended, and of the two that wait the later one gets the lock
abbrev pub last_first : History
last_first = history (record { now = at 59; up = true; stamps = [] }) (Minute (at 60)
    ∷ Begin 0 ∷ Begin 1 ∷ Begin 2 ∷ End (run_of 0 (at 60)) ∷ Got 2 (at 60) ∷ [])
