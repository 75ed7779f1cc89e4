use Rattle.cs_check.specs.Checked.{plan_in}
use Rattle.cs_daemon.proofs.daemon.run_daemon.Given as goal

abbrev pub ghosts-run_on-J-Ledger : goal.ghosts-run_on-J-Ledger
ghosts-run_on-J-Ledger g a = record { name = a.blank.name; parts = a.blank.parts }

abbrev pub ghosts-run_on-J-PlanLedger : goal.ghosts-run_on-J-PlanLedger
ghosts-run_on-J-PlanLedger g a = record { plan = plan_in a.checked }

abbrev pub ghosts-run_on-T-Ledger : goal.ghosts-run_on-T-Ledger
ghosts-run_on-T-Ledger g a = record { name = a.time.name; parts = a.time.parts }
