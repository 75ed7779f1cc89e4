use Rattle.std.proofs.Common.{◌≡◌, length}
use Rattle.cs_command.specs.Words.{name_from}
use Rattle.cs_command.proofs.named.name_of.Given as goal

abbrev pub invariant-loop-rest : goal.invariant-loop-rest
invariant-loop-rest l = name_from l.name l.rest ≡ name_from l.word l.word

abbrev pub decreases-loop-rest : goal.decreases-loop-rest
decreases-loop-rest l = length l.rest
