use Rattle.cs_table.proofs.Places.{indent_within}
use Rattle.cs_gather.proofs.writing.overflow.Goals as goal

pub at-requires : goal.at-requires
at-requires c = rw (c.whole.ensures, c.skip_blanks.ensures) (indent_within c.args.line.now)
