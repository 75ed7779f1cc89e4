use Rattle.cs_decl.proofs.Commands.{no_entry}
use Rattle.cs_decl.proofs.laws.left_out_lines_have_no_entry.Goals as goal

pub returns : goal.returns
returns c = no_entry
