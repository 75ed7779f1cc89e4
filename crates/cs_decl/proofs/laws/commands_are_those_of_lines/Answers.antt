use Rattle.cs_decl.proofs.Commands.{commands}
use Rattle.cs_decl.proofs.laws.commands_are_those_of_lines.Goals as goal

pub returns : goal.returns
returns c = commands
