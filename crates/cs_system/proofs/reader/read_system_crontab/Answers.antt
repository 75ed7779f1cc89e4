use Rattle.std.proofs.Common.{subst}
use Rattle.cs_table.specs.Table.{Denotes}
use Rattle.cs_table.proofs.Tables.{answered, meant}
use Rattle.cs_system.specs.Faults.{system, Meaning}
use Rattle.cs_system.specs.Table.{added}
use Rattle.cs_system.proofs.Tables.{agrees}
use Rattle.cs_system.proofs.reader.read_system_crontab.Goals as goal

pub returns-clause-table : goal.returns-clause-table
returns-clause-table c = (answered system added agrees c.args.bytes.now c.read_bytes.result c.read_bytes.ensures).0

pub returns-clause-fault : goal.returns-clause-fault
returns-clause-fault c = (answered system added agrees c.args.bytes.now c.read_bytes.result c.read_bytes.ensures).1

pub returns-clause-only : goal.returns-clause-only
returns-clause-only c = λ m means. subst (λ (n : Meaning). Denotes (λ t. t) n c.read_bytes.result) (meant system added agrees c.args.bytes.now m means) c.read_bytes.ensures
