use Rattle.std.proofs.Common.{◌≡◌, ◌-◌}
use Rattle.std.specs.List.{list_all, range_with_len}
use Rattle.cs_schedule.specs.Numbers.{has}
use Rattle.cs_decl.specs.When.{agree, same_numbers}
use Rattle.cs_decl.proofs.when.are_same_numbers.Given as goal

-- the same numbers are in both exactly if they are from here on
abbrev pub invariant-loop-number : goal.invariant-loop-number
invariant-loop-number l =
    list_all (λ n. agree (has l.one n) (has l.other n)) (range_with_len l.number (64 - l.number))
    ≡ same_numbers l.one l.other
