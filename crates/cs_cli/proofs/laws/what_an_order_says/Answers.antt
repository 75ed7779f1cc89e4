use Rattle.cs_cli.proofs.Schedules.{unowned_checked, unowned_schedule, ordered_checked, ordered_schedule}
use Rattle.cs_cli.proofs.laws.what_an_order_says.Goals as goal

pub returns-clause-order : goal.returns-clause-order
returns-clause-order c = ordered_schedule

pub returns-clause-order_checked : goal.returns-clause-order_checked
returns-clause-order_checked c = ordered_checked

pub returns-clause-unowned : goal.returns-clause-unowned
returns-clause-unowned c = unowned_schedule

pub returns-clause-unowned_checked : goal.returns-clause-unowned_checked
returns-clause-unowned_checked c = unowned_checked
