use Rattle.std.proofs.Common.{◌≡◌, ◌≤◌, length}
use Rattle.cs_crontab.specs.Command.{pieces_of}
use Rattle.cs_crontab.proofs.Pieces.{behind}
use Rattle.cs_crontab.proofs.command.piece.Given as goal

abbrev pub invariant-loop-piece : goal.invariant-loop-piece
invariant-loop-piece l = (behind l.piece.items (pieces_of l.rest) ≡ pieces_of l.text) × (length l.rest ≤ length l.text)

abbrev pub decreases-loop-piece : goal.decreases-loop-piece
decreases-loop-piece l = length l.rest
