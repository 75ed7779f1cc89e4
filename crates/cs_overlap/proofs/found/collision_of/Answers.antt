use Rattle.std.proofs.Common.{ap, sym}
use Rattle.std.specs.Prelude.{Option, option_map}
use Rattle.cs_windows.specs.declared.window.Window.{Window}
use Rattle.cs_overlap.proofs.FoundLemmas.{takers_none}
use Rattle.cs_overlap.proofs.found.collision_of.Goals as goal

pub returns-then-not-any_plain_of : goal.returns-then-not-any_plain_of
returns-then-not-any_plain_of c = sym (ap (λ (o : Option (Window × Window)). option_map (λ (q : Window × Window). (c.args.minute, q.0, q.1)) o)
    (takers_none c.args.roles.now c.args.group c.args.held.now (c.any_plain_of.ensures c.if-not-any_plain_of.true)))
