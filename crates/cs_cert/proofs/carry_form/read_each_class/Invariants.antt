use Rattle.cs_json.proofs.Items.{Reads}
use Rattle.cs_cert.specs.Said.{carry_class_said}
use Rattle.cs_cert.proofs.carry_form.read_each_class.Given as goal

abbrev pub invariant-loop-value : goal.invariant-loop-value
invariant-loop-value l = Reads carry_class_said l.list.items l.value-index l.found.items
