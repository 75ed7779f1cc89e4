use Rattle.std.proofs.Common.{◌≡◌, ◌≤◌, drop, min}
use Rattle.cs_table.specs.Text.{decimal, decimal_from}
use Rattle.cs_report.proofs.words.number.Given as goal

abbrev pub invariant-loop-digit : goal.invariant-loop-digit
invariant-loop-digit l = record {
  capped : l.value ≤ 4_294_967_296;
  value : min 4_294_967_296 (decimal_from l.value (drop l.digit-index l.digits)) ≡ min 4_294_967_296 (decimal l.digits);
}
