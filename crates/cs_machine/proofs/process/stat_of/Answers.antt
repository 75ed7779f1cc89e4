use Rattle.std.proofs.Common.{sym}
use Rattle.cs_machine.proofs.process.stat_of.Goals as goal

pub returns : goal.returns
returns c = (
  c.in_ok-behind.field-0-0.now,
  c.in_ok-behind.behind.now,
  c.in_ok-behind.ensures.parts,
  c.in_ok-behind.ensures.last,
  sym c.in_ok-state.ensures,
  sym c.in_ok-start.ensures,
)
