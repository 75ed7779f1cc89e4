use Rattle.std.proofs.Common.{◌≡◌, ◌++◌, take}
use Rattle.cs_machine.specs.Runs.{list_text}
use Rattle.cs_machine.proofs.listed_run.push_runs.Given as goal

abbrev pub invariant-loop-run : goal.invariant-loop-run
invariant-loop-run l = l.text.items ≡ l.fn.text.items ++ list_text (take l.run-index l.runs)
