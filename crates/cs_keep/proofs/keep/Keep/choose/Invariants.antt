use Rattle.std.proofs.Common.{◌≡◌}
use Rattle.cs_keep.specs.Tick.{most}
use Rattle.cs_keep.proofs.Underway.{IsUnderway}
use Rattle.cs_keep.proofs.keep.Keep.choose.Given as goal

abbrev pub invariant-loop-event : goal.invariant-loop-event
invariant-loop-event g l = record {
  kind : l.kind ≡ l.initial.kind;
  underway : IsUnderway l.kind (l.initial.self, l.initial.seat) (l.self, l.seat);
}

abbrev pub decreases-loop-event : goal.decreases-loop-event
decreases-loop-event g l = most l.kind l.self.core.state
