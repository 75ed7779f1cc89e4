use Rattle.cs_json.proofs.Items.{Reads}
use Rattle.cs_cert.specs.Said.{carry_said}
use Rattle.cs_cert.proofs.carry_form.read_carries.Given as goal

abbrev pub invariant-loop-value : goal.invariant-loop-value
invariant-loop-value l = Reads carry_said l.list.items l.value-index l.found.items
