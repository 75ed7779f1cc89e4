use Rattle.cs_diff.proofs.Verdicts.{called_safe}
use Rattle.cs_diff.proofs.answer.rooms_of.Goals as goal

pub push_shrunk-requires-after_bounds : goal.push_shrunk-requires-after_bounds
push_shrunk-requires-after_bounds g c κs within = (
  called_safe c.args.old.0.plan.now c.args.old.1 c.requires.0 c.in-Safe-Safe.is-0,
  called_safe c.args.new.0.plan.now c.args.new.1 c.requires.1 c.in-Safe-Safe.is-1,
)
