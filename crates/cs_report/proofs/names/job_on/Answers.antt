use Rattle.std.proofs.Common.{None, ◌<◌, arith}
use Rattle.cs_table.specs.Text.{decimal}
use Rattle.cs_report.proofs.Lines.{job_there}
use Rattle.cs_report.proofs.names.job_on.Goals as goal

pub returns-in-None : goal.returns-in-None
returns-in-None c =
    let below : c.number-number.result < 4_294_967_296 = omega (arith, c.if-number-ge4294967296.false) in
    job_there c.args.plan.now (decimal c.args.digits.now) c.number-number.result None c.number-number.ensures below c.in-None.ensures.place
