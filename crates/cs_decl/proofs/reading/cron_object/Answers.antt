use Rattle.cs_decl.specs.Shape.{is_cron_member}
use Rattle.cs_decl.proofs.reading.cron_object.Goals as goal

pub returns : goal.returns
unfolding is_cron_member
returns c = rw c.as_slice.ensures at c.only_members.ensures
