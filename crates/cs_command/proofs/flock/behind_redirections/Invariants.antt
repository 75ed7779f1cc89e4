use Rattle.std.proofs.Common.{◌≡◌, ◌-◌, length}
use Rattle.cs_command.specs.Locks.{behind_redirection}
use Rattle.cs_command.specs.Words.{passed}
use Rattle.cs_command.proofs.flock.behind_redirections.Given as goal

abbrev pub invariant-loop : goal.invariant-loop
invariant-loop l = passed behind_redirection (l.end - l.counter) l.rest ≡ passed behind_redirection (length l.text) l.text
