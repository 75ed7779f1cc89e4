use Rattle.std.proofs.Common.{◌≡◌, ◌-◌, false, length}
use Rattle.cs_command.specs.Locks.{asked_in, behind_option}
use Rattle.cs_command.specs.Words.{passed}
use Rattle.cs_command.proofs.flock.options.Given as goal

abbrev pub invariant-loop : goal.invariant-loop
invariant-loop l =
    record {
      asked : asked_in (l.end - l.counter) l.asked l.rest ≡ asked_in (length l.text) (false, false) l.text;
      behind : passed behind_option (l.end - l.counter) l.rest ≡ passed behind_option (length l.text) l.text;
    }
