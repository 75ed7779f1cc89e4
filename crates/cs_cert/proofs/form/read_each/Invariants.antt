use Rattle.std.proofs.Common.{map}
use Rattle.cs_json.proofs.Items.{Reads}
use Rattle.cs_cert.proofs.form.read_each.Given as goal

abbrev pub invariant-loop-value : goal.invariant-loop-value
invariant-loop-value g l = Reads g.T.Form.said l.list.items l.value-index (map g.T.Form.seen l.found.items)
