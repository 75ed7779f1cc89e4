use Rattle.std.proofs.Common.{◌≡◌, ◌≤◌, ◌+◌, List, length}
use Rattle.cs_history.specs.declared.run.Going.{Going}
use Rattle.cs_device.specs.declared.runner.Outcome.{Outcome}
use Rattle.cs_daemon.specs.Carried.{CarriesOutAll}
use Rattle.cs_daemon.proofs.shared.Shared.work.Given as goal

abbrev pub invariant-loop : goal.invariant-loop
invariant-loop g l = record {
  parts : l.seat.parts ≡ 1;
  runs : (runs : List (Going × Outcome)) × CarriesOutAll g.W.Runner.runs l.fn.self.plan.now l.fn.self.owners runs l.fn.runner l.runner
      × (l.seat.share ≤ l.fn.seat.share + length runs);
}
