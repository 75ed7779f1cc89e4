use Rattle.cs_decl.specs.Shape.{is_member}
use Rattle.cs_decl.proofs.reading.whole_object.Goals as goal

pub returns : goal.returns
unfolding is_member
returns c = rw c.as_slice.ensures at c.only_members.ensures
