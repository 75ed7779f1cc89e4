use Rattle.std.proofs.Common.{◌∷◌, []}
use Rattle.cs_history.specs.declared.event.Event.TheVariants.{Down}
use Rattle.cs_keep.specs.Tick.{coming}
use Rattle.cs_keep.proofs.Making.{then_made, short_made}
use Rattle.cs_keep.proofs.keep.Keep.skip.Goals as goal

pub returns-in-Err : goal.returns-in-Err
returns-in-Err g c = short_made (coming c.args.minute) (c.args.self.now, c.args.seat.now) (c.make.new.self, c.make.new.seat) (Down ∷ []) c.in-Err.fault c.in-Err.ensures

pub returns : goal.returns
returns g c = then_made (coming c.args.minute) (c.args.self.now, c.args.seat.now) (c.make.new.self, c.make.new.seat) (c.come.new.self, c.come.new.seat) (Down ∷ []) c.come.result c.in_default.ensures c.come.ensures
