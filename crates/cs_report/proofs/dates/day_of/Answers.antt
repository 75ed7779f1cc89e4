use Rattle.std.proofs.Common.{◌∙◌}
use Rattle.cs_report.proofs.Named.{day_read}
use Rattle.cs_report.proofs.dates.day_of.Goals as goal

pub returns : goal.returns
returns c = c.ok.ensures.value ∙ day_read c.args.text.now c.read_day.result c.read_day.ensures.ok c.read_day.ensures.not_a_date c.read_day.ensures.out_of_range
