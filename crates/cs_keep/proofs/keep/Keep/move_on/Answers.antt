use Rattle.cs_keep.specs.Keeping.{plan_of}
use Rattle.cs_keep.specs.Tick.{advancing, choosing}
use Rattle.cs_keep.specs.declared.tick.Kind.TheVariants.{Settling}
use Rattle.cs_keep.proofs.Making.{then_made, minute_free}
use Rattle.cs_keep.proofs.keep.Keep.move_on.Goals as goal

pub advance-requires : goal.advance-requires
advance-requires g c = minute_free (c.args.self.now, c.args.seat.now) (c.choose.new.self, c.choose.new.seat) c.args.minute c.in_default.ensures c.requires.up c.requires.civil c.requires.next c.requires.present

pub returns : goal.returns
returns g c = then_made (advancing c.args.minute) (c.args.self.now, c.args.seat.now) (c.choose.new.self, c.choose.new.seat) (c.advance.new.self, c.advance.new.seat) (choosing Settling (plan_of c.args.self.now) c.args.self.now.core.state) c.advance.result c.in_default.ensures c.advance.ensures
