use Rattle.std.proofs.Common.{length}
use Rattle.std.specs.List.{AllZip}
use Rattle.cs_gather.specs.Gather.{IsGathered}
use Rattle.cs_gather.proofs.confirm.are_gathered.Given as goal

abbrev pub invariant-loop-found : goal.invariant-loop-found
invariant-loop-found l = AllZip (IsGathered l.places) l.found l.gathered → AllZip (IsGathered l.places) l.fn.found l.fn.gathered

abbrev pub decreases-loop-found : goal.decreases-loop-found
decreases-loop-found l = length l.found
