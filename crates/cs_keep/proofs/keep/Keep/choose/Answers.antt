use Rattle.std.proofs.Common.{◌≡◌, Some, refl, sym, ap, ◌∙◌, arith}
use Rattle.cs_history.specs.Step.{State, after}
use Rattle.cs_keep.specs.Keeping.{Keeping, plan_of}
use Rattle.cs_keep.specs.Seat.{Place}
use Rattle.cs_keep.specs.Tick.{most, next_of}
use Rattle.cs_keep.proofs.Choosing.{fewer, next_is}
use Rattle.cs_keep.proofs.Underway.{one_more_made, stopped_at}
use Rattle.cs_keep.proofs.keep.Keep.choose.Goals as goal

pub make-requires : goal.make-requires
make-requires g c =
    let next : next_of c.args.kind (plan_of c.loop-event.self) c.loop-event.self.core.state ≡ Some c.in-Some.event = sym c.next.ensures ∙ c.in-Some.is in
    (next_is c.args.kind (plan_of c.loop-event.self) c.loop-event.self.core.state c.in-Some.event next).1

pub returns-in-Err : goal.returns-in-Err
returns-in-Err g c =
    let next : next_of c.args.kind (plan_of c.loop-event.self) c.loop-event.self.core.state ≡ Some c.in-Some.event = sym c.next.ensures ∙ c.in-Some.is in
    stopped_at c.args.kind (c.args.self.now, c.args.seat.now) (c.loop-event.self, c.loop-event.seat) c.loop-event.invariant.underway c.in-Some.event c.in-Err.fault (c.make.new.self, c.make.new.seat) next c.in-Err.ensures

pub loop-event-smaller : goal.loop-event-smaller
loop-event-smaller g c =
    let next : next_of c.args.kind (plan_of c.loop-event.self) c.loop-event.self.core.state ≡ Some c.in-Some.event = sym c.next.ensures ∙ c.in-Some.is in
    let less = fewer c.args.kind (plan_of c.loop-event.self) c.loop-event.self.core.state c.in-Some.event next in
    let state : c.make.new.self.core.state ≡ after (plan_of c.loop-event.self) c.loop-event.self.core.state c.in-Some.event = ap (λ (x : Keeping × Place). x.0.core.state) c.in_default-make.ensures in
    omega (arith, less, ap (λ (s : State). most c.args.kind s) state)

pub loop-event-preserved : goal.loop-event-preserved
loop-event-preserved g c =
    let next : next_of c.args.kind (plan_of c.loop-event.self) c.loop-event.self.core.state ≡ Some c.in-Some.event = sym c.next.ensures ∙ c.in-Some.is in
    record { kind = refl; underway = one_more_made c.args.kind (c.args.self.now, c.args.seat.now) (c.loop-event.self, c.loop-event.seat) c.loop-event.invariant.underway c.in-Some.event (c.make.new.self, c.make.new.seat) next c.in_default-make.ensures }
