use Rattle.std.proofs.Common.{ap, sym, ◌∙◌}
use Rattle.std.specs.Prelude.{Option, option_map}
use Rattle.cs_windows.specs.declared.window.Window.{Window}
use Rattle.cs_overlap.proofs.FoundLemmas.{blocker_none}
use Rattle.cs_overlap.proofs.found.blocked_by.Goals as goal

pub returns-then-not-is_due_skip : goal.returns-then-not-is_due_skip
returns-then-not-is_due_skip c = sym (ap (λ (o : Option Window). option_map (λ (w : Window). (c.args.minute, c.args.skip.now, w)) o)
    (blocker_none c.args.roles.now c.args.minute c.args.skip.now c.args.held.now (sym c.is_due_skip.ensures ∙ c.if-not-is_due_skip.true)))
