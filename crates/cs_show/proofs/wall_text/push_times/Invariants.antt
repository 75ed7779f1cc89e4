use Rattle.std.proofs.Common.{◌≡◌, ◌++◌, replicate}
use Rattle.cs_show.proofs.wall_text.push_times.Given as goal

abbrev pub invariant-loop : goal.invariant-loop
invariant-loop l = l.starts.items ≡ l.initial.starts.items ++ replicate l.counter l.minute
