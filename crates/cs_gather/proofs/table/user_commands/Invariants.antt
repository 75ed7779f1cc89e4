use Rattle.std.proofs.Common.{◌≡◌, map, take}
use Rattle.cs_gather.specs.Gathered.{of_user}
use Rattle.cs_gather.proofs.table.user_commands.Given as goal

abbrev pub invariant-loop-line : goal.invariant-loop-line
invariant-loop-line l = l.commands.items ≡ map (of_user l.name l.user) (take l.line-index l.lines)
