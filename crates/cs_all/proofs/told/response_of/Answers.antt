use Rattle.std.proofs.Common.{ap}
use Rattle.cs_files.specs.Response.{Ending}
use Rattle.cs_all.proofs.told.response_of.Goals as goal

pub returns : goal.returns
returns c = (c.most_severe-most.result, rw c.as_slice.ensures.value at c.most_severe-most.ensures, ap (λ (e : Ending). e.status) c.told.ensures)
