use Rattle.std.proofs.Common.{◌≡◌}
use Rattle.cs_daemon.proofs.shared.Shared.see_off.Given as goal

abbrev pub invariant-loop : goal.invariant-loop
invariant-loop g l = record {
  last : g.C.Clock.last l.clock ≡ g.C.Clock.last l.fn.clock;
  failures : g.C.Clock.failures l.clock ≡ g.C.Clock.failures l.fn.clock;
  top : g.C.Clock.top l.clock ≡ g.C.Clock.top l.fn.clock;
  risen : g.C.Clock.risen l.clock ≡ g.C.Clock.risen l.fn.clock;
}
