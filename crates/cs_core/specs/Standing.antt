-- What a core holds.
use Rattle.std.specs.Prelude.{◌≡◌, ℕ, ◌-◌, ◌/◌, Bool, true, false, not, ◌&&◌, ◌==◌, List, filter, get_or, map, Option, None, Some}
use Rattle.std.specs.List.{AllByRecursion, list_any}
use Rattle.std.specs.Option.{is_some}
use Rattle.cs_plan.specs.Plan.{Declared}
use Rattle.cs_history.specs.History.{Pass}
use Rattle.cs_history.specs.Names.{AreNamed}
use Rattle.cs_history.specs.Plan.{Plan, IsPlan, by_delay, is_cron}
use Rattle.cs_history.specs.Step.{State}
use Rattle.cs_history.specs.declared.run.Run.{Run}
use Rattle.cs_history.specs.declared.run.Going.{Going}
use Rattle.cs_locks.specs.Locks.{Counts, IsCounted, hold_of, is_listed, takes}
use Rattle.cs_locks.specs.declared.hold.Hold.{Hold}

-- the plan that it runs, and the state that its events have left
pub record Standing : Type 0 where
  pub plan : Declared
  pub state : State

abbrev pub names : List Going → List Run
names runs = map (λ r. r.run) runs

-- the holds of running or waiting runs
abbrev pub going_holds : Plan → List Going → List Hold
going_holds p rs = map (λ r. hold_of p r.run.job) rs

abbrev pub waiting_holds : Plan → List Run → List Hold
waiting_holds p ws = map (λ w. hold_of p w.job) ws

abbrev pub state_in : ℕ → Bool → List ℕ → List Going → List Going → List (Option ℕ) → Option Pass
    → State
state_in now up due waiting running stamps pass = record {
  now = now;
  up = up;
  pending = due;
  waiting = names waiting;
  running = running;
  stamps = stamps;
  pass = pass;
}

abbrev pub is_job : Option ℕ → ℕ → Bool
is_job None j = false
is_job (Some k) j = k == j

-- the jobs of a pass that begins at minute t, while this anacron job, or none, runs
abbrev pub owed_beside : Plan → List (Option ℕ) → Option ℕ → ℕ → List ℕ
owed_beside p ss lone t = filter (λ j.
    p.owed j (get_or ss (j - p.crons) None) (t / 1440) && not (is_job lone j)) (by_delay p)

-- the anacron job that runs, if there is one
pub record IsLone (p : Plan) (runs : List Going) (lone : Option ℕ) : Type 0 where
  pub any : list_any (λ r. not (is_cron p r.run.job)) runs ≡ is_some lone
  pub which : (j : ℕ) → is_cron p j ≡ false → list_any (λ r. r.run.job == j) runs ≡ is_job lone j

-- what a core keeps besides its state, so that no event has to look at every run
pub record IsKept (p : Plan) (s : State) (held wanted : Counts) (job : Option ℕ) : Type 0 where
  -- runs have different names
  pub named : AreNamed p s
  -- how many runs have each lock, and how many wait for it
  pub runs : IsCounted (going_holds p s.running) held
  pub waits : IsCounted (waiting_holds p s.waiting) wanted
  -- all that wait take a lock, and each group of the plan has its place
  pub plan : IsPlan p
  pub takers : AllByRecursion (λ w. takes (hold_of p w.job) ≡ true) s.waiting
  pub listed : (j : ℕ) → is_listed (hold_of p j) ≡ true
  pub lone : IsLone p s.running job
