use Rattle.cs_files.proofs.TurnLemmas.{first_read}
use Rattle.cs_lint.proofs.answer.tables_at.Goals as goal

pub returns-in_err-bytes-clause-turn : goal.returns-in_err-bytes-clause-turn
returns-in_err-bytes-clause-turn g c = first_read c.args.request.now.table.now _ _ _ c.bytes_at.ensures.alone
