use Rattle.std.proofs.Common.{◌≡◌, ◌++◌, drop, flat_map}
use Rattle.cs_report.specs.Warning.{left_out_note}
use Rattle.cs_report.proofs.warning.push_all_left_out.Given as goal

abbrev pub invariant-loop-number : goal.invariant-loop-number
invariant-loop-number l = l.text.items ++ flat_map left_out_note (drop l.number-index l.numbers) ≡ l.fn.text.items ++ flat_map left_out_note l.numbers
