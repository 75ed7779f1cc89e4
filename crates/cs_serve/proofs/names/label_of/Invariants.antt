use Rattle.std.proofs.Common.{◌≡◌, drop}
use Rattle.cs_serve.specs.Names.{label_of}
use Rattle.cs_serve.proofs.names.label_of.Given as goal

abbrev pub invariant-loop-entry : goal.invariant-loop-entry
invariant-loop-entry l = label_of (drop l.entry-index l.entries) l.line ≡ label_of l.entries l.line
