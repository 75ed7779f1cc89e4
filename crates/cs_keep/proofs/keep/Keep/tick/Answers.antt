use Rattle.cs_keep.proofs.Ticks.{ticks_plan, ticks_grow, ticks_now, ticks_parts, ticks_rise}
use Rattle.cs_keep.proofs.keep.Keep.tick.Goals as goal

pub returns-clause-now : goal.returns-clause-now
returns-clause-now g c = ticks_now (c.args.self.now, c.args.seat.now) (c.tick_unless_back.new.self, c.tick_unless_back.new.seat) c.args.last c.args.minute c.tick_unless_back.result c.tick_unless_back.ensures

pub returns-clause-rises : goal.returns-clause-rises
returns-clause-rises g c = ticks_rise (c.args.self.now, c.args.seat.now) (c.tick_unless_back.new.self, c.tick_unless_back.new.seat) c.args.last c.args.minute c.tick_unless_back.result c.tick_unless_back.ensures

pub returns-clause-grows : goal.returns-clause-grows
returns-clause-grows g c = ticks_grow (c.args.self.now, c.args.seat.now) (c.tick_unless_back.new.self, c.tick_unless_back.new.seat) c.args.last c.args.minute c.tick_unless_back.result c.tick_unless_back.ensures

pub returns-clause-parts : goal.returns-clause-parts
returns-clause-parts g c = ticks_parts (c.args.self.now, c.args.seat.now) (c.tick_unless_back.new.self, c.tick_unless_back.new.seat) c.args.last c.args.minute c.tick_unless_back.result c.tick_unless_back.ensures

pub returns-clause-plan : goal.returns-clause-plan
returns-clause-plan g c = ticks_plan (c.args.self.now, c.args.seat.now) (c.tick_unless_back.new.self, c.tick_unless_back.new.seat) c.args.last c.args.minute c.tick_unless_back.result c.tick_unless_back.ensures
