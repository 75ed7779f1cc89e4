use Rattle.std.proofs.Common.{◌≡◌, ◌≤◌, not, length, filter, if◌then◌else◌, take}
use Rattle.cs_daytree.specs.Tree.{has}
use Rattle.cs_daytree.proofs.possible.kept.Given as goal

abbrev pub invariant-loop-number : goal.invariant-loop-number
invariant-loop-number l = record {
  few : length l.found.items ≤ l.number-index;
  those : l.found.items ≡ filter (λ number. if l.inside then has l.values number else not (has l.values number)) (take l.number-index l.numbers);
}
