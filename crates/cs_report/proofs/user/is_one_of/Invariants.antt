use Rattle.std.proofs.Common.{◌≡◌, ◌≤◌, length}
use Rattle.cs_report.specs.User.{is_one_of}
use Rattle.cs_report.proofs.user.is_one_of.Given as goal

abbrev pub invariant-loop-at : goal.invariant-loop-at
invariant-loop-at l = (is_one_of l.rest l.word ≡ is_one_of l.list l.word) × (length l.rest ≤ length l.list)

abbrev pub decreases-loop-at : goal.decreases-loop-at
decreases-loop-at l = length l.rest
