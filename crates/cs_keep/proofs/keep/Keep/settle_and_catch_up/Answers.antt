use Rattle.cs_keep.specs.Keeping.{plan_of}
use Rattle.cs_keep.specs.Tick.{choosing}
use Rattle.cs_keep.specs.declared.tick.Kind.TheVariants.{Settling, Catching}
use Rattle.cs_keep.proofs.Making.{then_made}
use Rattle.cs_keep.proofs.keep.Keep.settle_and_catch_up.Goals as goal

pub returns : goal.returns
returns g c = then_made (choosing Catching) (c.args.self.now, c.args.seat.now) (c.choose.new.self, c.choose.new.seat) (c.choose-2.new.self, c.choose-2.new.seat) (choosing Settling (plan_of c.args.self.now) c.args.self.now.core.state) c.choose-2.result c.in_default.ensures c.choose-2.ensures
