use Rattle.std.proofs.Common.{◌≡◌, All, vec_len}
use Rattle.cs_machine.specs.Runners.{IsMadeBy}
use Rattle.cs_machine.proofs.runners.runners_by.Given as goal

abbrev pub invariant-loop : goal.invariant-loop
invariant-loop g l =
    (vec_len l.runners ≡ l.counter) × All (IsMadeBy (goal.F-post g l.new_runner) l.words) l.runners.items
