-- Names of runs: a job and the minute in which it was due, or in which an anacron job's run
-- started.
use Rattle.std.specs.Prelude.{◌≡◌, ℕ, ◌+◌, ◌<◌, ◌≤◌, ◌&&◌, true, false, not, List, [], ◌∷◌, ◌++◌, Option, Some, None}
use Rattle.std.specs.List.{AllByRecursion}
use Rattle.cs_history.specs.Lists.{EachPair, number_of}
use Rattle.cs_history.specs.Plan.{Plan, is_cron}
use Rattle.cs_history.specs.History.{History, From, ◌▸◌, Pass, run_of, same_run, going, now, running, answer, with_started}
use Rattle.cs_history.specs.Step.{State}
use Rattle.cs_history.specs.declared.run.Run.{Run}
use Rattle.cs_history.specs.declared.run.Going.{Going}
use Rattle.cs_history.specs.declared.event.Event.TheVariants.{Begin, Got, Catch}

abbrev pub jobs_left : Option Pass → List ℕ
jobs_left None = []
jobs_left (Some o) = o.left

-- what holds of each state that a legal history leaves, whether or not its runs are in time
pub record AreNamed (p : Plan) (s : State) : Type 0 where
  -- a name occurs at most once among the running runs, the waiting runs, and those that pending
  -- jobs would start
  pub once : (n : Run)
      → number_of (λ r. same_run n r.run) s.running + number_of
      (λ w. same_run n w) s.waiting + number_of (λ j. same_run n (run_of j s.now)) s.pending ≤ 1
  -- a run is named by a minute that was reached
  pub runs_past : AllByRecursion (λ r. r.run.at ≤ s.now) s.running
  pub waits_past : AllByRecursion (λ w. w.at ≤ s.now) s.waiting
  -- only cron jobs are pending or wait, only anacron jobs are left to a pass, and at most one of
  -- these runs
  pub pending : AllByRecursion (λ j. is_cron p j ≡ true) s.pending
  pub waiting : AllByRecursion (λ w. is_cron p w.job ≡ true) s.waiting
  pub pass : AllByRecursion (λ j. (is_cron p j ≡ false) × (j < p.jobs)) (jobs_left s.pass)
  pub lone : number_of (λ r. not (is_cron p r.run.job)) s.running ≤ 1

-- no two running runs have one name, no two waiting runs have, and no waiting or pending one has
-- that of a running one; of two running runs one is a cron job's
pub record AreApart (p : Plan) (s : State) : Type 0 where
  pub running : EachPair (λ r q. same_run r.run q.run ≡ false) s.running
  pub lone : EachPair
      (λ r q. (not (is_cron p q.run.job) && not (is_cron p r.run.job)) ≡ false) s.running
  pub waiting : EachPair (λ v w. same_run v w ≡ false) s.waiting
  pub both : AllByRecursion
      (λ w. AllByRecursion (λ r. same_run w r.run ≡ false) s.running) s.waiting
  pub fresh : AllByRecursion
      (λ j. AllByRecursion (λ r. same_run (run_of j s.now) r.run ≡ false) s.running) s.pending

-- the runs that have started, ended or not, in order of start
abbrev pub started : Plan → History → List Going
started p (From s) = []
started p (h ▸ Begin j) =
    with_started (answer p (running p h) j) (started p h) (going j (now h) (now h))
started p (h ▸ Got j d) = started p h ++ going j d (now h) ∷ []
started p (h ▸ Catch j) = started p h ++ going j (now h) (now h) ∷ []
started p (h ▸ e) = started p h
