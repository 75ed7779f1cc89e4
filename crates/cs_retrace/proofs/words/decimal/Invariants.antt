use Rattle.std.proofs.Common.{◌≡◌, ◌≤◌, min, drop}
use Rattle.cs_table.specs.Text.{decimal, decimal_from}
use Rattle.cs_retrace.proofs.words.decimal.Given as goal

abbrev pub invariant-loop-byte : goal.invariant-loop-byte
invariant-loop-byte l =
    record {
      capped : l.value ≤ 1_000_000_000_000;
      value : min 1_000_000_000_000 (decimal_from l.value (drop l.byte-index l.text)) ≡ min 1_000_000_000_000 (decimal l.text);
    }
