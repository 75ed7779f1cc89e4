use Rattle.std.proofs.Common.{◌≡◌, length}
use Rattle.cs_table.specs.Text.{lines_of}
use Rattle.cs_draft.specs.Draft.{warn_of}
use Rattle.cs_draft.proofs.warned.warn_of.Given as goal

abbrev pub invariant-loop-left : goal.invariant-loop-left
invariant-loop-left l = warn_of l.table l.left (lines_of l.rest) ≡ warn_of l.table l.numbers (lines_of l.text)

abbrev pub decreases-loop-left : goal.decreases-loop-left
decreases-loop-left l = length l.rest
