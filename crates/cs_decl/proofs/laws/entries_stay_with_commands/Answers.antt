use Rattle.cs_decl.proofs.Commands.{stays}
use Rattle.cs_decl.proofs.laws.entries_stay_with_commands.Goals as goal

pub returns : goal.returns
returns c = stays
