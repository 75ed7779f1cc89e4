use Rattle.std.proofs.Common.{◌∷◌, []}
use Rattle.cs_history.specs.declared.event.Event.TheVariants.{Minute}
use Rattle.cs_keep.specs.Tick.{settling_catching}
use Rattle.cs_keep.proofs.Making.{then_made, short_made}
use Rattle.cs_keep.proofs.keep.Keep.advance.Goals as goal

pub returns-in-Err : goal.returns-in-Err
returns-in-Err g c = short_made settling_catching (c.args.self.now, c.args.seat.now) (c.make.new.self, c.make.new.seat) (Minute c.args.minute ∷ []) c.in-Err.fault c.in-Err.ensures

pub returns : goal.returns
returns g c = then_made settling_catching (c.args.self.now, c.args.seat.now) (c.make.new.self, c.make.new.seat) (c.settle_and_catch_up.new.self, c.settle_and_catch_up.new.seat) (Minute c.args.minute ∷ []) c.settle_and_catch_up.result c.in_default.ensures c.settle_and_catch_up.ensures
