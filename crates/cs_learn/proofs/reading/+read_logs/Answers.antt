use Rattle.cs_learn.proofs.ReadingLemmas.{first_turn, named_later}
use Rattle.cs_learn.proofs.reading.+read_logs.Goals as goal

pub returns-in-Ok-clause-named : goal.returns-in-Ok-clause-named
returns-in-Ok-clause-named g t c = named_later c.read_logs.result c.args.paths.now c.in-Some.later.now c.in-Some.path.now c.in-Some.ensures.cases.0 c.read_logs.ensures.named

pub returns-in-Err-clause-turn : goal.returns-in-Err-clause-turn
returns-in-Err-clause-turn g t c = first_turn c.args.paths.now c.in-Some.later.now c.in-Some.path.now (g.I.Inputs.reads c.args.inputs.now) (g.I.Inputs.reads c.read_log.new.inputs) c.in-Some.ensures.cases.0 c.read_log.ensures.alone
