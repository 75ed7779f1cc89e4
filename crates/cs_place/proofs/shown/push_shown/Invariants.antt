use Rattle.std.proofs.Common.{◌≡◌, ◌++◌, length}
use Rattle.cs_place.specs.Shown.{shown_from, shown_text}
use Rattle.cs_place.proofs.shown.push_shown.Given as goal

abbrev pub invariant-loop-rest : goal.invariant-loop-rest
invariant-loop-rest l =
    l.text.items ++ shown_from l.left l.rest ≡ l.fn.text.items ++ shown_text l.bytes

abbrev pub decreases-loop-rest : goal.decreases-loop-rest
decreases-loop-rest l = length l.rest
