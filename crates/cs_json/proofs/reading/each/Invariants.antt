use Rattle.std.proofs.Common.{map}
use Rattle.cs_json.proofs.Items.{Reads}
use Rattle.cs_json.proofs.reading.each.Given as goal

abbrev pub invariant-loop-v : goal.invariant-loop-v
invariant-loop-v g l = Reads g.T.FromJson.shape l.list.items l.v-index (map g.T.FromJson.seen l.found.items)
