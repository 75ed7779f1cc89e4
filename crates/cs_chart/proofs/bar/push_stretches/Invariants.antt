use Rattle.std.proofs.Common.{◌≡◌, ◌++◌, take, flat_map, string_bytes}
use Rattle.cs_chart.specs.Chart.{bar_text}
use Rattle.cs_chart.proofs.bar.push_stretches.Given as goal

abbrev pub invariant-loop-bar : goal.invariant-loop-bar
invariant-loop-bar l = string_bytes l.text ≡ string_bytes l.fn.text ++ (l.start ++ flat_map bar_text (take l.bar-index l.bars))
