use Rattle.std.proofs.Common.{◌≡◌, map, take}
use Rattle.cs_decl.proofs.twice.twice_line.Given as goal

abbrev pub invariant-loop-entry : goal.invariant-loop-entry
invariant-loop-entry l = l.numbers ≡ map (λ e. e.name.number) (take l.entry-index l.cron)
