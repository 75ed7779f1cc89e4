use Rattle.std.proofs.Common.{rules, refl}
use Rattle.cs_machine.proofs.as_user.command_as.Goals as goal

pub returns : goal.returns
returns c = record { program = search rules; words = search rules; clears = search rules; variables = (c.value_after-folder.result.now, search rules, c.in_ok-hand.ensures.variables refl); folder = search rules }
