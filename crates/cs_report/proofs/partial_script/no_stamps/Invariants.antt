use Rattle.std.proofs.Common.{◌≡◌, None, length, replicate}
use Rattle.cs_report.proofs.partial_script.no_stamps.Given as goal

abbrev pub invariant-loop : goal.invariant-loop
invariant-loop l = record {
  none : l.stamps.items ≡ replicate l.counter None;
  few : length l.stamps.items ≡ l.counter;
}
