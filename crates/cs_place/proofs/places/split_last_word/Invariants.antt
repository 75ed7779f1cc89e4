use Rattle.std.proofs.Common.{◌≡◌, length, take}
use Rattle.cs_place.specs.Places.{before_word}
use Rattle.cs_place.proofs.places.split_last_word.Given as goal

abbrev pub invariant-loop-rest : goal.invariant-loop-rest
invariant-loop-rest l =
    record {
      front : l.rest ≡ take (length l.rest) l.text;
      same : before_word l.rest ≡ before_word l.text;
    }

abbrev pub decreases-loop-rest : goal.decreases-loop-rest
decreases-loop-rest l = length l.rest
