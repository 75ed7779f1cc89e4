use Rattle.std.proofs.Common.{ap, ◌∙◌}
use Rattle.std.specs.List.{list_any}
use Rattle.cs_history.specs.History.{same_run}
use Rattle.cs_core.specs.Standing.{Standing}
use Rattle.cs_core.proofs.Runs.{has_name}
use Rattle.cs_core.proofs.event_core.Core.is_waiting.Goals as goal

pub returns : goal.returns
returns c = c.contains.ensures ∙ has_name c.args.run c.self.inside.waiting ∙ ap (λ (s : Standing). list_any (same_run c.args.run) s.state.waiting) c.self.view_is
