use Rattle.std.proofs.Common.{◌≡◌, ◌≤◌, ◌+◌, Some}
use Rattle.cs_device.specs.declared.clock.Tick.TheVariants.{At}
use Rattle.cs_daemon.specs.Stamps.{HaveBeenWritten}
use Rattle.cs_daemon.proofs.shared.Shared.keep_time.Given as goal

abbrev pub invariant-loop : goal.invariant-loop
invariant-loop g l = record {
  ends : (goal.iterator-loop g).can_next l.iterator' × (goal.iterator-loop g).is_finite l.iterator';
  whole : l.time.parts ≡ g.T.Ledger.parts;
  now : l.time.amount ≡ l.last;
  last : g.C.Clock.last l.clock ≡ Some (At l.last);
  top : l.last ≤ g.C.Clock.top l.clock;
  rises : g.C.Clock.risen l.clock + l.fn.seat.share ≤ g.C.Clock.risen l.fn.clock + l.seat.share;
  failures : g.C.Clock.failures l.fn.clock ≤ g.C.Clock.failures l.clock;
  parts : l.seat.parts ≡ l.fn.seat.parts;
  grows : l.fn.seat.share ≤ l.seat.share;
  written : HaveBeenWritten g.S.StampStore.writes g.J.PlanLedger.plan l.fn.stored.stamps.items l.fn.store l.stored.stamps.items l.store;
  faults : l.stored.faults + g.S.StampStore.failures l.fn.store
      ≤ l.fn.stored.faults + g.S.StampStore.failures l.store;
}
