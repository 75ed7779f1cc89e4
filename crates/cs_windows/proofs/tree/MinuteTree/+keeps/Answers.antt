use Rattle.std.proofs.Common.{sym, ◌∙◌}
use Rattle.cs_windows.specs.Tree.{tree_of}
use Rattle.cs_windows.proofs.Trees.{keeps-untouched}
use Rattle.cs_windows.proofs.tree.MinuteTree.+keeps.Goals as goal

pub returns-then-not-touches : goal.returns-then-not-touches
returns-then-not-touches t c = sym (keeps-untouched c.args.window.now (tree_of c.args.self.now) c.args.lo c.args.hi (c.requires c.if-inside.true) (sym c.touches.ensures.value ∙ c.if-not-touches.true))
