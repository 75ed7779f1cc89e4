use Rattle.std.proofs.Common.{◌≡◌, ◌-◌, length}
use Rattle.cs_command.specs.Words.{behind_nice_option}
use Rattle.cs_command.specs.Words.{passed}
use Rattle.cs_command.proofs.fronts.behind_nice_options.Given as goal

abbrev pub invariant-loop : goal.invariant-loop
invariant-loop l = passed behind_nice_option (l.end - l.counter) l.rest ≡ passed behind_nice_option (length l.text) l.text
