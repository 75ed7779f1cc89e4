use Rattle.std.proofs.Common.{ℕ, List, Bor, map}
use Rattle.cs_files.proofs.TurnLemmas.{none_read}
use Rattle.cs_learn.proofs.AnswerLemmas.{log_honest, log_unread}
use Rattle.cs_learn.proofs.answer.logs_at.Goals as goal

pub returns-clause-step : goal.returns-clause-step
returns-clause-step g c = λ fresh.
    log_unread (g.I.Inputs.whole c.args.inputs.now) _ c.in-Err.unread.path.now c.in-Err.unread.fault (g.I.Inputs.failed c.args.inputs.now) (g.I.Inputs.failed c.read_logs.new.inputs) c.fault_of.result c.fault_of.ensures c.in-Err.ensures.named (c.in-Err.ensures.long fresh)

pub returns-clause-status : goal.returns-clause-status
returns-clause-status g c =
    log_honest c.in-Err.unread.path.now c.in-Err.unread.fault (g.I.Inputs.failed c.read_logs.new.inputs) (g.I.Inputs.reads c.read_logs.new.inputs) c.fault_of.result c.fault_of.ensures c.in-Err.ensures.fails

pub returns-in_err-jobs-clause-turn : goal.returns-in_err-jobs-clause-turn
returns-in_err-jobs-clause-turn g c = none_read (map (λ (path : Bor (List ℕ)). path.now) c.args.paths.now) (g.I.Inputs.reads c.args.inputs.now)
