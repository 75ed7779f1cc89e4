use Rattle.std.proofs.Common.{All, take}
use Rattle.cs_gather.specs.Tables.{IsBelow}
use Rattle.cs_gather.specs.Listing.{AreAmong, FindsNamed, NoneRead}
use Rattle.cs_gather.proofs.below.push_shelf.Given as goal

pub record Finding (g : goal.Over) (l : goal.Live-loop-name g) : Type 0 where
  pub below : All (IsBelow l.fn.front) l.initial.found.items → All (IsBelow l.fn.front) l.found.items
  pub keeps : AreAmong l.initial.found.items l.found.items
  pub finds : All (FindsNamed g.I.Folders.tree l.folder l.fn.shelf l.found.items) (take l.name-index l.name-items)
  pub stays : NoneRead g.I.Inputs.whole g.I.Inputs.left g.I.Inputs.reads l.initial.inputs l.inputs

abbrev pub invariant-loop-name : goal.invariant-loop-name
invariant-loop-name g l = Finding g l
