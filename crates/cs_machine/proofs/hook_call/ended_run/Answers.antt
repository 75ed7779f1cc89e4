use Rattle.std.proofs.Common.{rules}
use Rattle.cs_machine.proofs.Ends.{no_end}
use Rattle.cs_machine.proofs.hook_call.ended_run.Goals as goal

pub returns-in-None-clause-none : goal.returns-in-None-clause-none
returns-in-None-clause-none c = λ none.
    no_end c.args.words.now (c.in-None.ensures.none (search rules)) (c.signalled_run.ensures.none none)
