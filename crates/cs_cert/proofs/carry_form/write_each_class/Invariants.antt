use Rattle.std.proofs.Common.{◌≡◌, map, take}
use Rattle.serde_json.specs.View.{view}
use Rattle.cs_cert.specs.Written.{carry_class_data}
use Rattle.cs_cert.proofs.carry_form.write_each_class.Given as goal

abbrev pub invariant-loop-class : goal.invariant-loop-class
invariant-loop-class l = map view l.written.items ≡ map carry_class_data (take l.class-index l.classes)
