-- Small plans whose runs meet at midnight, and the capacity that they need then.
use Rattle.std.specs.Prelude.{ℕ, ◌%◌, ◌≤◌, ◌↔◌, ◌==◌, false, List, ◌++◌, length, get_or, Option, Some}
use Rattle.std.specs.Prelude.{None}
use Rattle.cs_history.specs.Calm.{IsCalm}
use Rattle.cs_history.specs.Plan.{Plan}
use Rattle.cs_history.specs.declared.mode.Mode.{Mode}
use Rattle.cs_history.specs.declared.mode.Mode.TheVariants.{Plain}

pub record Job : Type 0 where
  pub group : Option ℕ
  pub mode : Mode
  pub weight : ℕ

-- of no group; of a group, without its lock
abbrev pub ungrouped : ℕ → Job
ungrouped w = record { group = None; mode = Plain; weight = w }

abbrev pub unlocked : ℕ → ℕ → Job
unlocked g w = record { group = Some g; mode = Plain; weight = w }

-- takes the lock of its group in this mode
abbrev pub locked : Mode → ℕ → ℕ → Job
locked mode g w = record { group = Some g; mode = mode; weight = w }

-- these jobs of the crontab are due at each midnight, for up to ten minutes; those of the
-- anacrontab may start in the minute of midnight alone, for as long. No group is exclusive.
abbrev pub at_midnight : List Job → List Job → ℕ → Plan
at_midnight cron anacron capacity = record {
  crons = length cron;
  jobs = length (cron ++ anacron);
  limit = λ _. 10;
  weight = λ j. (get_or (cron ++ anacron) j (ungrouped 1)).weight;
  group = λ j. (get_or (cron ++ anacron) j (ungrouped 1)).group;
  mode = λ j. (get_or (cron ++ anacron) j (ungrouped 1)).mode;
  due = λ _ t. t % 1440 == 0;
  owed = λ _ _ _. false;
  delay = λ _. 0;
  groups = 2;
  exclusive = λ _. false;
  capacity = capacity;
  from = 0;
  to = 1;
  pass_minute = None;
}

-- the first minute of 1970-01-04 is calm exactly if the capacity is so much or more
abbrev pub Need : List Job → List Job → ℕ → Type 0
Need cron anacron least =
    (capacity : ℕ) → IsCalm (at_midnight cron anacron capacity) (λ _. 10) 4320 ↔ (least ≤ capacity)
