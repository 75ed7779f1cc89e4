use Rattle.cs_decl.proofs.Commands.{one_line}
use Rattle.cs_decl.proofs.laws.each_entry_names_one_line.Goals as goal

pub returns : goal.returns
returns c = one_line
