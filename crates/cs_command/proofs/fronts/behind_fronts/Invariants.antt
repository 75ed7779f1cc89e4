use Rattle.std.proofs.Common.{◌≡◌, ◌-◌, length}
use Rattle.cs_command.specs.Words.{behind_front}
use Rattle.cs_command.specs.Words.{passed}
use Rattle.cs_command.proofs.fronts.behind_fronts.Given as goal

abbrev pub invariant-loop : goal.invariant-loop
invariant-loop l = passed behind_front (l.end - l.counter) l.rest ≡ passed behind_front (length l.text) l.text
