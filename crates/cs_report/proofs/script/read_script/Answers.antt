use Rattle.std.proofs.Common.{subst}
use Rattle.cs_report.specs.Faults.{PlainMeaning}
use Rattle.cs_report.specs.Script.{Denotes}
use Rattle.cs_report.proofs.Opened.{plain_answered, plain_meant}
use Rattle.cs_report.proofs.script.read_script.Goals as goal

pub returns-clause-script : goal.returns-clause-script
returns-clause-script c = (plain_answered c.args.plan.now c.args.bytes.now c.read_plain.result c.read_plain.ensures).0

pub returns-clause-fault : goal.returns-clause-fault
returns-clause-fault c = (plain_answered c.args.plan.now c.args.bytes.now c.read_plain.result c.read_plain.ensures).1

pub returns-clause-only : goal.returns-clause-only
returns-clause-only c = λ m means. subst (λ (n : PlainMeaning). Denotes (λ s. s) n c.read_plain.result) (plain_meant c.args.plan.now c.args.bytes.now m means) c.read_plain.ensures
