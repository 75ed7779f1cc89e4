use Rattle.cs_decl.proofs.Makeup.{made_up_of_parts}
use Rattle.cs_decl.proofs.laws.parts_make_up_the_whole.Goals as goal

pub returns : goal.returns
returns c = made_up_of_parts
