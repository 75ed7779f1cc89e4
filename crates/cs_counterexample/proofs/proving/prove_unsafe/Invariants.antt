use Rattle.std.proofs.Common.{take}
use Rattle.cs_counterexample.proofs.Trials.{IsTrial}
use Rattle.cs_counterexample.proofs.proving.prove_unsafe.Given as goal

abbrev pub invariant-loop-place : goal.invariant-loop-place
invariant-loop-place l = IsTrial l.plan l.script.start (take l.place l.script.events) l.trial
