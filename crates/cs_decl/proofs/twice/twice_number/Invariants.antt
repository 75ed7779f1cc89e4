use Rattle.std.proofs.Common.{◌++◌, take}
use Rattle.cs_decl.specs.Faults.{same_number, first_again}
use Rattle.cs_decl.proofs.Numbers.{HasNumbers, Comes}
use Rattle.cs_decl.proofs.twice.twice_number.Given as goal

abbrev pub invariant-loop-i : goal.invariant-loop-i
invariant-loop-i l =
    record {
      seen : HasNumbers l.seen.keys (l.before ++ take l.i l.numbers);
      rest : Comes l.before l.numbers l.i (first_again same_number l.before 0 l.numbers);
    }
