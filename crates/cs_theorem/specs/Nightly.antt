-- One job, due at each midnight, that waits for its lock and takes up to ten minutes.
use Rattle.std.specs.Prelude.{ℕ, ◌-◌, ◌%◌, true, false, Some, None, if◌then◌else◌, nat_lt, ◌==◌}
use Rattle.cs_history.specs.declared.mode.Mode.TheVariants.{Plain, Wait}
use Rattle.cs_history.specs.Plan.{Plan}

abbrev pub nightly : Plan
nightly = record {
  crons = 1;
  jobs = 1;
  limit = λ _. 10;
  weight = λ _. 1;
  group = λ _. Some 0;
  mode = λ j. if nat_lt j 1 then Wait else Plain;
  due = λ _ t. t % 1440 == 0;
  owed = λ _ _ _. false;
  delay = λ _. 0;
  groups = 1;
  exclusive = λ _. true;
  capacity = 1;
  from = 0;
  to = 1440;
  pass_minute = None;
}

abbrev pub nightly_reach : ℕ → ℕ
nightly_reach j = 10

abbrev pub nightly_backlog : ℕ → ℕ → ℕ
nightly_backlog g t = if t % 1440 == 0 then 0 else 10 - t % 1440
