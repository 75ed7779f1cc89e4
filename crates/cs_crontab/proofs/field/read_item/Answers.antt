use Rattle.cs_crontab.proofs.Items.{item_answers}
use Rattle.cs_crontab.proofs.field.read_item.Goals as goal

pub returns-clause-written : goal.returns-clause-written
returns-clause-written c = (item_answers c.args.part c.args.text.now c.whole_item.result c.whole_item.ensures).0

pub returns-clause-none : goal.returns-clause-none
returns-clause-none c = (item_answers c.args.part c.args.text.now c.whole_item.result c.whole_item.ensures).1
