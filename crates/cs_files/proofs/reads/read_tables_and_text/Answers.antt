use Rattle.cs_files.proofs.TurnLemmas.{first_read}
use Rattle.cs_files.proofs.reads.read_tables_and_text.Goals as goal

pub returns-in_err-table-clause-turn : goal.returns-in_err-table-clause-turn
returns-in_err-table-clause-turn g c = first_read c.args.table.now _ _ _ c.table_from.ensures.alone
