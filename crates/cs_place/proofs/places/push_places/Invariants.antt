use Rattle.std.proofs.Common.{◌≡◌, ◌≤◌, ◌+◌, ◌++◌, length}
use Rattle.cs_table.specs.Text.{lines_of}
use Rattle.cs_place.specs.Places.{places_from}
use Rattle.cs_place.proofs.places.push_places.Given as goal

abbrev pub invariant-loop-rest : goal.invariant-loop-rest
invariant-loop-rest l =
    record {
      within : l.number + length l.rest ≤ length l.text + 2;
      told : l.places.items ++ places_from l.number (lines_of l.rest) ≡ l.fn.places.items ++ places_from 2 (lines_of l.text);
    }

abbrev pub decreases-loop-rest : goal.decreases-loop-rest
decreases-loop-rest l = length l.rest
