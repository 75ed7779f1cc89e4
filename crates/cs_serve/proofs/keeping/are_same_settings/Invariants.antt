use Rattle.std.proofs.Common.{◌≡◌, take}
use Rattle.cs_serve.proofs.keeping.are_same_settings.Given as goal

abbrev pub invariant-loop-at : goal.invariant-loop-at
invariant-loop-at l = take l.at l.one ≡ take l.at l.other
