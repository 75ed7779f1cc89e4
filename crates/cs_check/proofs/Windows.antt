use Rattle.std.proofs.Common.{◌≡◌, ℕ, ◌+◌, ◌-◌, ◌%◌, ◌<◌, ◌≤◌, ◌==◌, Bool, true, if◌then◌else◌, subst}
use Rattle.std.specs.List.{AllByRecursion}
use Rattle.cs_history.proofs.Lists.{all_map}
use Rattle.cs_history.specs.Calm.{Holds, reach, window_of}
use Rattle.cs_history.specs.History.{History, IsInTime, IsLegal, now, running}
use Rattle.cs_history.specs.Plan.{Plan, is_cron}
use Rattle.cs_history.specs.declared.run.Going.{Going}
use Rattle.cs_check.specs.Checked.{StayInWindows}

held : (p : Plan) (c : ℕ → ℕ) (t : ℕ) (r : Going) → Holds p c t (window_of p r) → is_cron p r.run.job ≡ true
    → (p.due r.run.job r.run.at ≡ true) × (r.run.at ≤ t) × (t < r.run.at + reach p c r.run.job)
held p c t r holds cron =
    let other = r.since - r.since % 1440 + p.from in (
      subst (λ (b : Bool). (if b then p.due r.run.job (if b then r.run.at else other) else ((if b then r.run.at else other) % 1440 == p.from)) ≡ true) cron holds.opens,
      subst (λ (b : Bool). (if b then r.run.at else other) ≤ t) cron holds.begun,
      subst (λ (b : Bool). t < (if b then r.run.at else other) + reach p c r.run.job) cron holds.lasts,
    )

pub within : (p : Plan) (c : ℕ → ℕ) → StayInWindows p c → (h : History) → IsLegal p h → IsInTime p h
    → AllByRecursion (λ r. is_cron p r.run.job ≡ true → (p.due r.run.job r.run.at ≡ true) × (r.run.at ≤ now h) × (now h < r.run.at + reach p c r.run.job)) (running p h)
within p c stays h legal in_time =
    all_map (λ r. Holds p c (now h) (window_of p r)) (λ r. is_cron p r.run.job ≡ true → (p.due r.run.job r.run.at ≡ true) × (r.run.at ≤ now h) × (now h < r.run.at + reach p c r.run.job)) (running p h)
    (λ r holds cron. held p c (now h) r holds cron) (stays h legal in_time)
