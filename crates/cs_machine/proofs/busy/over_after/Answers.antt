use Rattle.cs_machine.proofs.Lasting.{over_later}
use Rattle.cs_machine.proofs.busy.over_after.Goals as goal

pub loop-note-init : goal.loop-note-init
loop-note-init c = over_later c.args.jobs.now c.args.minute c.args.over c.requires
