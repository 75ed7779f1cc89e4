use Rattle.cs_anacrontab.proofs.Stamps.{only_one}
use Rattle.cs_anacrontab.proofs.stamp.read_stamp.Goals as goal

pub returns-clause-only : goal.returns-clause-only
returns-clause-only c = only_one c.args.text.now c.date_part.result.now c.read_date.result c.read_date.ensures.value c.date_part.ensures
