use Rattle.std.proofs.Common.{◌≡◌, ◌-◌, length}
use Rattle.cs_command.specs.Words.{behind_one, passed}
use Rattle.cs_command.proofs.words.behind_words.Given as goal

abbrev pub invariant-loop : goal.invariant-loop
invariant-loop l = passed behind_one (l.end - l.counter) l.rest ≡ passed behind_one (length l.text) l.text
