use Rattle.std.proofs.Common.{subst}
use Rattle.cs_table.specs.Table.{Denotes}
use Rattle.cs_table.proofs.Tables.{answered, meant}
use Rattle.cs_crontab.specs.Faults.{crontab, Meaning}
use Rattle.cs_crontab.specs.Table.{added}
use Rattle.cs_crontab.proofs.Tables.{agrees}
use Rattle.cs_crontab.proofs.reader.read_crontab.Goals as goal

pub returns-clause-table : goal.returns-clause-table
returns-clause-table c = (answered crontab added agrees c.args.bytes.now c.read_bytes.result c.read_bytes.ensures).0

pub returns-clause-fault : goal.returns-clause-fault
returns-clause-fault c = (answered crontab added agrees c.args.bytes.now c.read_bytes.result c.read_bytes.ensures).1

pub returns-clause-only : goal.returns-clause-only
returns-clause-only c = λ m means. subst (λ (n : Meaning). Denotes (λ t. t) n c.read_bytes.result) (meant crontab added agrees c.args.bytes.now m means) c.read_bytes.ensures
