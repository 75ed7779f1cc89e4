use Rattle.std.proofs.Common.{◌≡◌, ◌<◌, ◌≤◌, ◌+◌, ◌∙◌, ℕ, if◌then◌else◌, nat_lt, arith}
use Rattle.std.proofs.lemmas.Bool.Decides.{nat_tests}
use Rattle.cs_daemon.proofs.Storing.{none_written, then_written}
use Rattle.cs_daemon.proofs.shared.Shared.keep_time.Goals as goal

-- a minute above all before brings at least one event
rising : (top last m r0 r1 r2 s0 s1 s2 : ℕ) → last ≤ top → r1 + s0 ≤ r0 + s1 → r2 ≡ r1 + (if nat_lt top m then 1 else 0) → s1 ≤ s2 → (last < m → s1 < s2) → r2 + s0 ≤ r0 + s2
rising top last m r0 r1 r2 s0 s1 s2 below so risen grows more = grind (arith, nat_tests)

pub returns-in-Err-clause-written : goal.returns-in-Err-clause-written
returns-in-Err-clause-written g c =
    let known = c.args.stored.now.stamps.items in
    let w = c.go_on.ensures.written in
    then_written g.S.StampStore.writes g.J.PlanLedger.plan known known c.go_on.new.stored.stamps.items w.0
    c.args.store.now c.args.store.now c.go_on.new.store (none_written g.S.StampStore.writes g.J.PlanLedger.plan known c.args.store.now) w.1 w.2

pub loop-init : goal.loop-init
loop-init g c =
    let known = c.args.stored.now.stamps.items in
    let gone = c.go_on in
    let w = gone.ensures.written in
    record {
      ends = (tt, tt);
      whole = gone.ensures.whole;
      now = c.in_default.ensures.now;
      last = c.requires.last;
      top = c.requires.top;
      rises = omega (arith, gone.ensures.grows);
      failures = omega arith;
      parts = gone.ensures.parts;
      grows = gone.ensures.grows;
      written =
          then_written g.S.StampStore.writes g.J.PlanLedger.plan known known gone.new.stored.stamps.items w.0
          c.args.store.now c.args.store.now gone.new.store (none_written g.S.StampStore.writes g.J.PlanLedger.plan known c.args.store.now) w.1 w.2;
      faults = gone.ensures.faults;
    }

pub returns-in-Err-go_on-clause-written : goal.returns-in-Err-go_on-clause-written
returns-in-Err-go_on-clause-written g c =
    let w = c.go_on-in-loop.ensures.written in
    then_written g.S.StampStore.writes g.J.PlanLedger.plan c.args.stored.now.stamps.items c.loop.stored.stamps.items c.go_on-in-loop.new.stored.stamps.items w.0
    c.args.store.now c.loop.store c.go_on-in-loop.new.store c.loop.invariant.written w.1 w.2

pub returns-then-leaves_off-clause-rises : goal.returns-then-leaves_off-clause-rises
returns-then-leaves_off-clause-rises g c = λ stopped.
    let so = c.loop.invariant in
    let gone = c.go_on-in-loop in
    let same = c.leaves_off.ensures.risen in
    let risen =
    rising (g.C.Clock.top c.loop.clock) c.loop.last c.in-At.minute (g.C.Clock.risen c.args.clock.now) (g.C.Clock.risen c.loop.clock) (g.C.Clock.risen c.tick.new.self) c.args.seat.now.share c.loop.seat.share gone.new.seat.share
    so.top so.rises c.in-At.ensures.risen gone.ensures.grows c.in_default-go_on.ensures.rises in
    omega (arith, same, risen)

pub returns-then-leaves_off-clause-written : goal.returns-then-leaves_off-clause-written
returns-then-leaves_off-clause-written g c =
    let w = c.go_on-in-loop.ensures.written in
    then_written g.S.StampStore.writes g.J.PlanLedger.plan c.args.stored.now.stamps.items c.loop.stored.stamps.items c.go_on-in-loop.new.stored.stamps.items w.0
    c.args.store.now c.loop.store c.go_on-in-loop.new.store c.loop.invariant.written w.1 w.2

pub loop-preserved : goal.loop-preserved
loop-preserved g c =
    let so = c.loop.invariant in
    let gone = c.go_on-in-loop in
    let stays = c.leaves_off.ensures in
    let w = gone.ensures.written in
    let risen =
    rising (g.C.Clock.top c.loop.clock) c.loop.last c.in-At.minute (g.C.Clock.risen c.args.clock.now) (g.C.Clock.risen c.loop.clock) (g.C.Clock.risen c.tick.new.self) c.args.seat.now.share c.loop.seat.share gone.new.seat.share
    so.top so.rises c.in-At.ensures.risen gone.ensures.grows c.in_default-go_on.ensures.rises in
    record {
      ends = (tt, tt);
      whole = gone.ensures.whole;
      now = c.in_default-go_on.ensures.now;
      last = stays.same c.if-leaves_off.false ∙ c.in-At.ensures.last;
      top = omega (arith, c.in-At.ensures.top, stays.top);
      rises = omega (arith, stays.risen, risen);
      failures = omega (arith, so.failures, c.tick.ensures.failures, stays.failures);
      parts = gone.ensures.parts ∙ so.parts;
      grows = omega (arith, so.grows, gone.ensures.grows);
      written =
          then_written g.S.StampStore.writes g.J.PlanLedger.plan c.args.stored.now.stamps.items c.loop.stored.stamps.items gone.new.stored.stamps.items w.0
          c.args.store.now c.loop.store gone.new.store so.written w.1 w.2;
      faults = omega (arith, so.faults, gone.ensures.faults);
    }
