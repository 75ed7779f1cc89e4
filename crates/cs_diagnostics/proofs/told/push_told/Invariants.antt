use Rattle.std.proofs.Common.{◌≡◌, ◌++◌, map, take}
use Rattle.cs_diagnostics.specs.Printed.{words_in, words_told}
use Rattle.cs_diagnostics.proofs.told.push_told.Given as goal

abbrev pub invariant-loop-finding : goal.invariant-loop-finding
invariant-loop-finding l = map words_told l.told.items
    ≡ map words_told l.initial.told.items ++ map words_in (take l.finding-index l.findings)
