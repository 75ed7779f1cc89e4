-- Windows of runs, calm minutes, and the bound on what is left to do.
use Rattle.std.specs.Prelude.{◌≡◌, ℕ, ◌+◌, ◌-◌, ◌%◌, ◌<◌, ◌≤◌, max, Bool, true, false, not, ◌&&◌, List, if◌then◌else◌, ◌==◌}
use Rattle.std.specs.List.{AllByRecursion}
use Rattle.cs_history.specs.Lists.{total, greatest, EachPair, below}
use Rattle.cs_history.specs.Plan.{Plan, is_cron, takes_lock, waits, shares, locks, same_group, rivals, due_at, IsReached}
use Rattle.cs_history.specs.History.{same_run}
use Rattle.cs_history.specs.declared.mode.Mode.TheVariants.{Skip}
use Rattle.cs_history.specs.declared.run.Run.{Run}
use Rattle.cs_history.specs.declared.run.Going.{Going}

-- a window of the job begins at this minute: a cron job is due, or the catch-up hours begin
abbrev pub opens : Plan → ℕ → ℕ → Bool
opens p j d = if is_cron p j then p.due j d else (d % 1440 == p.from)

-- how many minutes its windows last: the declared time, or what c gives a job that waits; a
-- catch-up run may start up to the last minute of the catch-up hours
abbrev pub reach : Plan → (ℕ → ℕ) → ℕ → ℕ
reach p c j =
    if is_cron p j then (if waits p j then c j else p.limit j) else (p.to - 1 + p.limit j) - p.from

-- the window of job w.job that begins at w.at holds the minute t
pub record Holds (p : Plan) (c : ℕ → ℕ) (t : ℕ) (w : Run) : Type 0 where
  pub known : w.job < p.jobs
  pub opens : opens p w.job w.at ≡ true
  pub begun : w.at ≤ t
  pub lasts : t < w.at + reach p c w.job

abbrev pub plain_load : Plan → List Run → ℕ
plain_load p ws =
    total (λ w. if is_cron p w.job && not (takes_lock p w.job) then p.weight w.job else 0) ws

-- the most that holders of group g's lock weigh at once: one that doesn't share it, or all that do
abbrev pub lock_load : Plan → List Run → ℕ → ℕ
lock_load p ws g = max (greatest
    (λ w. if locks p g w.job && not (shares p w.job) then p.weight w.job else 0) ws)
    (total (λ w. if locks p g w.job && shares p w.job then p.weight w.job else 0) ws)

-- anacron runs one job at a time
abbrev pub catch_load : Plan → List Run → ℕ
catch_load p ws = greatest (λ w. if not (is_cron p w.job) then p.weight w.job else 0) ws

-- the most that the runs of these windows can weigh at once
abbrev pub load : Plan → List Run → ℕ
load p ws = plain_load p ws + total (lock_load p ws) (below p.groups) + catch_load p ws

abbrev pub AreDifferent : List Run → Type 0
AreDifferent ws = EachPair (λ v w. same_run v w ≡ false) ws

-- the windows that hold minute t, whenever they began, can do no harm
pub record IsCalm (p : Plan) (c : ℕ → ℕ) (t : ℕ) : Type 0 where
  -- two cron windows of one exclusive group are both of lock takers
  pub exclusive : (v w : Run) → Holds p c t v → Holds p c t w → same_run v w ≡ false
      → is_cron p v.job ≡ true → is_cron p w.job ≡ true → rivals p v.job w.job ≡ true
      → (takes_lock p v.job ≡ true) × (takes_lock p w.job ≡ true)
  -- no cron window meets a catch-up window of its exclusive group
  pub beside : (v w : Run) → Holds p c t v → Holds p c t w → is_cron p v.job ≡ true
      → is_cron p w.job ≡ false → (rivals p v.job w.job ≡ false) × (rivals p w.job v.job ≡ false)
  -- all the windows together are within the capacity
  pub load : (ws : List Run) → AreDifferent ws → AllByRecursion (Holds p c t) ws
      → load p ws ≤ p.capacity
  -- where a skip job is due, no other window of a lock taker of its group is open
  pub skip : (v w : Run) → v.at ≡ t → p.mode v.job ≡ Skip → Holds p c t v → Holds p c t w
      → same_run v w ≡ false → (takes_lock p w.job && same_group p v.job w.job) ≡ false

-- how many minutes the lock takers of g that are due at t may take
abbrev pub arrives : Plan → ℕ → ℕ → ℕ
arrives p g t = total (λ j. if locks p g j then p.limit j else 0) (due_at p t)

-- b bounds the minutes that are left to do for group g, before what arrives at the minute
pub record IsBacklog (p : Plan) (c : ℕ → ℕ) (g : ℕ) (b : ℕ → ℕ) : Type 0 where
  -- from minute to minute, what arrives is added and the lock's holder takes off one; asked only
  -- where both minutes can be reached
  pub falls : (t : ℕ) → IsReached t → IsReached (t + 1) → (b t + arrives p g t) - 1 ≤ b (t + 1)
  -- at some minute within the reach of each run that waits it is 0, unless that minute can't be
  -- reached
  pub clears : (j d : ℕ) → is_cron p j ≡ true → waits p j ≡ true → locks p g j ≡ true → IsReached d
      → p.due j d ≡ true → (z : ℕ) × (d < z) × (z ≤ d + c j) × (IsReached z → b z ≡ 0)

-- a cron job that waits for the lock of g
pub record HasWaiter (p : Plan) (g : ℕ) : Type 0 where
  pub job : ℕ
  pub cron : is_cron p job ≡ true
  pub waits : waits p job ≡ true
  pub locks : locks p g job ≡ true

-- each group with a job that waits has such a bound
abbrev pub IsBounded : Plan → (ℕ → ℕ) → (ℕ → ℕ → ℕ) → Type 0
IsBounded p c b = (g : ℕ) → HasWaiter p g → IsBacklog p c g (b g)

-- the window of a running run: from its due minute, or from the catch-up hours of the day it
-- started
abbrev pub window_of : Plan → Going → Run
window_of p r = record {
  job = r.run.job;
  at = if is_cron p r.run.job then r.run.at
      else (r.since - r.since % 1440 + p.from);
}
