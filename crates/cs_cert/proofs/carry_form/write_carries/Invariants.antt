use Rattle.std.proofs.Common.{◌≡◌, map, take}
use Rattle.serde_json.specs.View.{view}
use Rattle.cs_cert.specs.Written.{carry_data}
use Rattle.cs_cert.proofs.carry_form.write_carries.Given as goal

abbrev pub invariant-loop-of_group : goal.invariant-loop-of_group
invariant-loop-of_group l = map view l.written.items ≡ map carry_data (take l.of_group-index l.carries)
