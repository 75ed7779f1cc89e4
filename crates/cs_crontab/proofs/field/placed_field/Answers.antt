use Rattle.cs_crontab.proofs.Fields.{field_fits}
use Rattle.cs_crontab.proofs.field.placed_field.Goals as goal

pub moved-requires : goal.moved-requires
moved-requires c = field_fits c.args.part c.args.word.now c.args.more c.field.result c.field.ensures c.requires
