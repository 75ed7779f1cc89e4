use Rattle.std.proofs.Common.{◌≡◌, ◌≤◌, ◌+◌, length}
use Rattle.cs_table.specs.Text.{lines_of}
use Rattle.cs_table.specs.Table.{lines_from}
use Rattle.cs_table.proofs.reader.read_lines.Given as goal

abbrev pub invariant-loop-rest : goal.invariant-loop-rest
invariant-loop-rest g l =
    record {
      within : l.number + length l.rest ≤ length l.bytes;
      so_far : lines_from g.T.Draft.added (l.number + 1) l.table (lines_of l.rest) ≡ lines_from g.T.Draft.added 1 l.fn.empty (lines_of l.bytes);
    }

abbrev pub decreases-loop-rest : goal.decreases-loop-rest
decreases-loop-rest g l = length l.rest
