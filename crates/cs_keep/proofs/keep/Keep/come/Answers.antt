use Rattle.std.proofs.Common.{◌∷◌, []}
use Rattle.cs_history.specs.declared.event.Event.TheVariants.{Up}
use Rattle.cs_keep.specs.Tick.{choosing}
use Rattle.cs_keep.specs.declared.tick.Kind.TheVariants.{Catching}
use Rattle.cs_keep.proofs.Making.{then_made, short_made}
use Rattle.cs_keep.proofs.keep.Keep.come.Goals as goal

pub returns-in-Err : goal.returns-in-Err
returns-in-Err g c = short_made (choosing Catching) (c.args.self.now, c.args.seat.now) (c.make.new.self, c.make.new.seat) (Up c.args.minute ∷ []) c.in-Err.fault c.in-Err.ensures

pub returns : goal.returns
returns g c = then_made (choosing Catching) (c.args.self.now, c.args.seat.now) (c.make.new.self, c.make.new.seat) (c.choose.new.self, c.choose.new.seat) (Up c.args.minute ∷ []) c.choose.result c.in_default.ensures c.choose.ensures
