use Rattle.std.proofs.Common.{◌≡◌, ◌≤◌, ◌+◌, ◌++◌, length}
use Rattle.cs_table.specs.Text.{lines_of}
use Rattle.cs_place.specs.Places.{parts_in}
use Rattle.cs_place.proofs.places.parts_in.Given as goal

abbrev pub invariant-loop-rest : goal.invariant-loop-rest
invariant-loop-rest l =
    record {
      within : length l.parts + length l.rest ≤ length l.text;
      told : l.parts ++ parts_in (lines_of l.rest) ≡ parts_in (lines_of l.text);
    }

abbrev pub decreases-loop-rest : goal.decreases-loop-rest
decreases-loop-rest l = length l.rest
