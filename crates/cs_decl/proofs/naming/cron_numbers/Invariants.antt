use Rattle.std.proofs.Common.{◌≡◌, map, take}
use Rattle.cs_decl.specs.Join.{number_of}
use Rattle.cs_decl.proofs.naming.cron_numbers.Given as goal

abbrev pub invariant-loop-entry : goal.invariant-loop-entry
invariant-loop-entry l = l.numbers ≡ map (λ e. number_of l.lines e.name) (take l.entry-index l.entries.cron)
