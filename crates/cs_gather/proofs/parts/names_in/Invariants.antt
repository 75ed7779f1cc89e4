use Rattle.cs_gather.specs.Listing.{NoneRead}
use Rattle.cs_gather.proofs.parts.names_in.Given as goal

abbrev pub invariant-loop-name : goal.invariant-loop-name
invariant-loop-name g l = NoneRead g.I.Inputs.whole g.I.Inputs.left g.I.Inputs.reads l.initial.inputs l.inputs
