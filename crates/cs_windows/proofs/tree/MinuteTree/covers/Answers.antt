use Rattle.std.proofs.Common.{sym, ◌∙◌}
use Rattle.cs_windows.specs.Tree.{tree_of}
use Rattle.cs_windows.proofs.Trees.{covers_each}
use Rattle.cs_windows.proofs.tree.MinuteTree.covers.Goals as goal

pub returns-clause-complete : goal.returns-clause-complete
returns-clause-complete c inside =
    let both = covers_each (tree_of c.args.self.now) c.args.windows.now inside in
    (λ yes. both.0 (sym c.keeps_all.ensures ∙ yes), λ h. c.keeps_all.ensures ∙ both.1 h)
