use Rattle.std.proofs.Common.{◌≡◌, length}
use Rattle.cs_table.specs.Text.{lines_of}
use Rattle.cs_machine.specs.Runs.{listed_by, listed_in}
use Rattle.cs_machine.proofs.listed_run.read_runs.Given as goal

-- the lines that are left list, after what was read, what all lines do
abbrev pub invariant-loop-rest : goal.invariant-loop-rest
invariant-loop-rest l = listed_by l.runs.items (lines_of l.rest) ≡ listed_in l.text

abbrev pub decreases-loop-rest : goal.decreases-loop-rest
decreases-loop-rest l = length l.rest
