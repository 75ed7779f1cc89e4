use Rattle.std.proofs.Common.{◌≡◌, map, take}
use Rattle.cs_gather.specs.Gathered.{of_system}
use Rattle.cs_gather.proofs.table.system_commands.Given as goal

abbrev pub invariant-loop-line : goal.invariant-loop-line
invariant-loop-line l = l.commands.items ≡ map (of_system l.name) (take l.line-index l.lines)
