-- A script that can be written starts where histories may.
use Rattle.std.proofs.Common.{◌≡◌, ◌≤◌, true, nat_le}
use Rattle.std.proofs.lemmas.Bool.{leb-true}
use Rattle.cs_history.specs.Plan.{first_start}
use Rattle.cs_report.proofs.NamedJobs.{and_left}
use Rattle.cs_history.specs.declared.script.Script.{Script}
use Rattle.cs_plan.specs.Plan.{Declared}
use Rattle.cs_report.specs.ScriptText.{is_nameable}

pub starts : (d : Declared) (script : Script) → is_nameable d script ≡ true → first_start ≤ script.start.now
unfolding is_nameable
starts d script is = leb-true first_start script.start.now (and_left (nat_le first_start script.start.now) _ is)
