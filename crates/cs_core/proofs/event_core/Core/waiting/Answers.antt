use Rattle.std.proofs.Common.{ap}
use Rattle.cs_core.specs.Standing.{Standing}
use Rattle.cs_core.proofs.Runs.{names_none}
use Rattle.cs_core.proofs.event_core.Core.waiting.Goals as goal

pub returns-clause-none : goal.returns-clause-none
returns-clause-none c = names_none c.self.inside.waiting c.args.self.now.state.waiting (ap (λ (s : Standing). s.state.waiting) c.self.view_is)
