-- What holds of every core with its journal.
use Rattle.std.specs.Prelude.{◌+◌, ◌≤◌, ◌<◌, ◌^◌, vec_len, vec_capacity, length}
use Rattle.cs_plan.specs.Plan.{as_plan}
use Rattle.cs_history.specs.Journal.{IsJournal}
use Rattle.cs_check.specs.Checked.{AreFew, IsHeadline}
use Rattle.cs_keep.specs.Keeping.{Keeping}
use Rattle.cs_keep.specs.declared.limits.TheConstants.{MAX_ENTRIES}
use Rattle.cs_keep.specs.declared.journaled_core.JournaledCore.TheInside.{Inside}

abbrev pub seen : Inside → Keeping
seen a = record { base = a.base; journal = a.journal.items; total = a.total; core = a.core }

pub record Holds (a : Inside) : Type 0 where
  pub journal : IsJournal (as_plan a.core.plan) a.base a.journal.items a.core.state
  -- every legal history of the plan in time is safe, and never has more runs than the capacity
  pub safe : IsHeadline (as_plan a.core.plan)
  pub few : AreFew (as_plan a.core.plan)
  -- there is a place for the end of each running run
  pub room : vec_len a.journal + length a.core.state.running ≤ vec_capacity a.journal
  pub entries : vec_len a.journal + length a.core.state.running ≤ MAX_ENTRIES
  pub counted : a.total + length a.core.state.running < 2 ^ 64
