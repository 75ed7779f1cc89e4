use Rattle.std.proofs.Common.{◌≡◌, ◌++◌, ℕ, List, take}
use Rattle.std.specs.List.{AllZip, concat}
use Rattle.cs_diagnostics.specs.Printed.{HasWords}
use Rattle.cs_diagnostics.proofs.render.add_findings.Given as goal

abbrev pub invariant-loop-finding : goal.invariant-loop-finding
invariant-loop-finding l = (blocks : List (List ℕ))
    × AllZip HasWords (take l.finding-index l.findings) blocks
    × (l.text.items ≡ l.initial.text.items ++ concat blocks)
