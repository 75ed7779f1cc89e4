use Rattle.std.proofs.Common.{arith}
use Rattle.cs_crontab.specs.Command.{pieces_of}
use Rattle.cs_crontab.proofs.Pieces.{behind_nothing, pieces_some}
use Rattle.cs_crontab.proofs.command.piece.Goals as goal

pub loop-piece-init : goal.loop-piece-init
loop-piece-init c = (rw c.new-piece.ensures.items (behind_nothing (pieces_of c.args.text.now) (pieces_some c.args.text.now)), omega arith)
