use Rattle.std.proofs.Common.{◌≡◌, ◌≤◌, length, min, drop, ◌-◌}
use Rattle.cs_table.specs.Text.{is_digit, after, front, decimal, decimal_from}
use Rattle.cs_table.proofs.text.digits.Given as goal

abbrev pub invariant-loop-len : goal.invariant-loop-len
invariant-loop-len l =
    record {
      within : l.len ≤ length l.text;
      capped : l.value ≤ 1_000_000;
      value : min 1_000_000 (decimal_from l.value (front is_digit (drop l.len l.text))) ≡ min 1_000_000 (decimal (front is_digit l.text));
      after : after is_digit (drop l.len l.text) ≡ after is_digit l.text;
    }

abbrev pub decreases-loop-len : goal.decreases-loop-len
decreases-loop-len l = length l.text - l.len
