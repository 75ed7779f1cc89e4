use Rattle.std.proofs.Common.{◌∙◌}
use Rattle.cs_report.proofs.Named.{minute_read}
use Rattle.cs_report.proofs.dates.minute_of.Goals as goal

pub returns : goal.returns
returns c = c.ok.ensures.value ∙ minute_read c.args.text.now c.read_minute.result c.read_minute.ensures.ok c.read_minute.ensures.not_a_date c.read_minute.ensures.out_of_range
