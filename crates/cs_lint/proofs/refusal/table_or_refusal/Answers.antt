use Rattle.std.proofs.Common.{subst}
use Rattle.cs_crontab.specs.Faults.{IsFaultOf}
use Rattle.cs_lint.proofs.refusal.table_or_refusal.Goals as goal

pub returns-in-Err-At : goal.returns-in-Err-At
returns-in-Err-At c = (_, subst (IsFaultOf c.args.text.now) c.in-Err-At.field-0-is c.in-Err-At.ensures.fault)
