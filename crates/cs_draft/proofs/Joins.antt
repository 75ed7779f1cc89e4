use Rattle.std.proofs.Common.{◌≡◌, IfOk, IsTrue, Bool, None, Result, Ok, Err}
use Rattle.cs_crontab.specs.Crontab.{Table as Crontab}
use Rattle.cs_anacrontab.specs.Anacrontab.{Table as Anacrontab}
use Rattle.cs_decl.specs.declared.entries.Entries.{Entries}
use Rattle.cs_plan.specs.Plan.{Declared}
use Rattle.cs_decl.specs.Faults.{first_fault}
use Rattle.cs_decl.specs.Join.{join_faults, joined}
use Rattle.cs_decl.proofs.Commands.{no_fault}

pub plan_fits : (crontab : Crontab) (anacrontab : Anacrontab) (d : Entries) (plan : Declared) → joined crontab anacrontab d ≡ Ok plan → first_fault (join_faults crontab anacrontab d) ≡ None
unfolding joined
plan_fits crontab anacrontab d plan h = (no_fault _ plan _ h).0

-- implications pass through
pub fitting : {E P Q : Type 0} (r : Result Bool E) → (P → Q) → IfOk r (λ b. IsTrue b → P) → IfOk r (λ b. IsTrue b → Q)
fitting (Ok b) f h = λ yes. f (h yes)
fitting (Err e) f h = tt
