use Rattle.std.proofs.Common.{subst}
use Rattle.cs_anacrontab.specs.Faults.{IsFaultOf}
use Rattle.cs_lint.proofs.refusal.jobs_or_refusal.Goals as goal

pub returns-in-Err-At : goal.returns-in-Err-At
returns-in-Err-At c = rw c.in-Some.is (_, subst (IsFaultOf c.in-Some.text.now) c.in-Err-At.field-0-is c.in-Err-At.ensures.fault)
