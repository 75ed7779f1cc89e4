use Rattle.std.proofs.Common.{◌≡◌, length}
use Rattle.cs_table.specs.Text.{is_blank, after}
use Rattle.cs_table.proofs.text.skip_blanks.Given as goal

abbrev pub invariant-loop-rest : goal.invariant-loop-rest
invariant-loop-rest l = after is_blank l.rest ≡ after is_blank l.text

abbrev pub decreases-loop-rest : goal.decreases-loop-rest
decreases-loop-rest l = length l.rest
