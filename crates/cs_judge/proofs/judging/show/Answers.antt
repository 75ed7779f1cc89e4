use Rattle.std.proofs.Common.{rules}
use Rattle.cs_judge.proofs.Starts.{starts}
use Rattle.cs_judge.proofs.judging.show.Goals as goal

pub prove_unsafe-requires : goal.prove_unsafe-requires
prove_unsafe-requires c = starts c.args.plan.now c.args.script.now (search rules)

pub first_breach-requires : goal.first_breach-requires
first_breach-requires c = starts c.args.plan.now c.args.script.now (search rules)
