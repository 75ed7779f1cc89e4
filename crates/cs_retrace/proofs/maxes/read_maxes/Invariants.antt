use Rattle.std.proofs.Common.{◌≡◌, length}
use Rattle.cs_table.specs.Text.{lines_of}
use Rattle.cs_retrace.specs.Maxes.{given_by, numbered, read_in}
use Rattle.cs_retrace.proofs.maxes.read_maxes.Given as goal

-- the lines that are left give, after what was given, what all lines give
abbrev pub invariant-loop-rest : goal.invariant-loop-rest
invariant-loop-rest l = given_by l.given.items (numbered l.place (lines_of l.rest)) ≡ read_in l.text

abbrev pub decreases-loop-rest : goal.decreases-loop-rest
decreases-loop-rest l = length l.rest
