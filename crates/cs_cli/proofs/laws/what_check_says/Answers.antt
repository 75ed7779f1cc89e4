use Rattle.cs_cli.proofs.Schedules.{checked_schedule}
use Rattle.cs_cli.proofs.laws.what_check_says.Goals as goal

pub returns : goal.returns
returns c = checked_schedule
