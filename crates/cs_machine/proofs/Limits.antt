-- Ends that aren't those of a limit.
use Rattle.std.proofs.Common.{◌≢◌, pos, inl, inr}
use Rattle.cs_device.specs.declared.runner.Outcome.{Outcome}
use Rattle.cs_device.specs.declared.runner.Outcome.TheVariants.{Exited, Killed}
use Rattle.cs_machine.specs.Limit.{EndsAs}

pub no_end : (outcome : Outcome) → outcome ≢ Exited (pos 124) → outcome ≢ Exited (pos 137) → outcome ≢ Killed (pos 9) → (end : Outcome) → ¬ (EndsAs outcome end)
no_end outcome asked killed signal end (inl by) = asked by.0
no_end outcome asked killed signal end (inr (inl by, is)) = killed by
no_end outcome asked killed signal end (inr (inr by, is)) = signal by
