use Rattle.std.proofs.Common.{◌≡◌, ◌≤◌, ◌+◌, ◌++◌, length}
use Rattle.cs_place.specs.Places.{places_told}
use Rattle.cs_place.proofs.places.push_places_told.Given as goal

abbrev pub invariant-loop-lines : goal.invariant-loop-lines
invariant-loop-lines l =
    record {
      within : l.job + length l.lines ≤ length l.fn.lines;
      told : l.text.items ++ places_told l.front l.places l.jobs l.job l.lines ≡ l.fn.text.items ++ places_told l.front l.places l.jobs 0 l.fn.lines;
    }

abbrev pub decreases-loop-lines : goal.decreases-loop-lines
decreases-loop-lines l = length l.lines
