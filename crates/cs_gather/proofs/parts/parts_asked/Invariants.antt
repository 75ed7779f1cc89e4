use Rattle.cs_gather.specs.Listing.{NoneRead}
use Rattle.cs_gather.proofs.parts.parts_asked.Given as goal

abbrev pub invariant-loop-command : goal.invariant-loop-command
invariant-loop-command g l = NoneRead g.I.Inputs.whole g.I.Inputs.left g.I.Inputs.reads l.initial.inputs l.inputs
