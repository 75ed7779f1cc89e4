use Rattle.std.proofs.Common.{◌≡◌, map, take}
use Rattle.serde_json.specs.View.{view}
use Rattle.cs_json.proofs.writing.values.Given as goal

abbrev pub invariant-loop-x : goal.invariant-loop-x
invariant-loop-x g l = map view l.found.items ≡ map g.T.ToJson.spelled (take l.x-index l.list)
