use Rattle.cs_cli.proofs.Schedules.{made_safe, made_unsafe}
use Rattle.cs_cli.proofs.laws.what_make_says.Goals as goal

pub returns-clause-safe : goal.returns-clause-safe
returns-clause-safe c = made_safe

pub returns-clause-broken : goal.returns-clause-broken
returns-clause-broken c = made_unsafe
