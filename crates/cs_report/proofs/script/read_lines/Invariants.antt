use Rattle.std.proofs.Common.{◌≡◌, ◌≤◌, ◌+◌, length}
use Rattle.cs_table.specs.Text.{lines_of}
use Rattle.cs_report.specs.Script.{lines_from, nothing}
use Rattle.cs_report.proofs.script.read_lines.Given as goal

abbrev pub invariant-loop-rest : goal.invariant-loop-rest
invariant-loop-rest l =
    record {
      within : l.number + length l.rest ≤ length l.bytes;
      so_far : lines_from l.plan (l.number + 1) l.draft (lines_of l.rest) ≡ lines_from l.plan 1 (nothing l.plan) (lines_of l.bytes);
    }

abbrev pub decreases-loop-rest : goal.decreases-loop-rest
decreases-loop-rest l = length l.rest
