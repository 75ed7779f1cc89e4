use Rattle.cs_cli.proofs.Schedules.{judged_safe, judged_unsafe, judged_unknown}
use Rattle.cs_cli.proofs.laws.what_judge_says.Goals as goal

pub returns-clause-safe : goal.returns-clause-safe
returns-clause-safe c = judged_safe

pub returns-clause-broken : goal.returns-clause-broken
returns-clause-broken c = judged_unsafe

pub returns-clause-unknown : goal.returns-clause-unknown
returns-clause-unknown c = judged_unknown
