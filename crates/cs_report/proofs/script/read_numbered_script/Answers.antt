use Rattle.std.proofs.Common.{subst}
use Rattle.cs_report.specs.Faults.{Meaning}
use Rattle.cs_report.specs.Script.{Denotes}
use Rattle.cs_report.proofs.Opened.{answered, meant}
use Rattle.cs_report.proofs.script.read_numbered_script.Goals as goal

pub returns-clause-script : goal.returns-clause-script
returns-clause-script c = (answered c.args.plan.now c.args.bytes.now c.read_numbered.result c.read_numbered.ensures).0

pub returns-clause-fault : goal.returns-clause-fault
returns-clause-fault c = (answered c.args.plan.now c.args.bytes.now c.read_numbered.result c.read_numbered.ensures).1

pub returns-clause-only : goal.returns-clause-only
returns-clause-only c = λ m means. subst (λ (n : Meaning). Denotes (λ s. s) n c.read_numbered.result) (meant c.args.plan.now c.args.bytes.now m means) c.read_numbered.ensures
