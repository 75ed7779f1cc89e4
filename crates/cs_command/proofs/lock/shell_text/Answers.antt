use Rattle.std.proofs.Common.{refl}
use Rattle.cs_crontab.specs.Command.{parts_from, pieces_of}
use Rattle.cs_command.proofs.Parted.{given}
use Rattle.cs_command.proofs.lock.shell_text.Goals as goal

pub returns-in-None : goal.returns-in-None
returns-in-None c =
    let e = c.in_ok-text.ensures.only (parts_from (pieces_of c.args.command.now)) (given c.args.command.now) in
    rw (← e, c.in-None.is) refl

pub returns-in-Some : goal.returns-in-Some
returns-in-Some c =
    let e = c.in_ok-text.ensures.only (parts_from (pieces_of c.args.command.now)) (given c.args.command.now) in
    rw (← e, c.in-Some.is) refl
