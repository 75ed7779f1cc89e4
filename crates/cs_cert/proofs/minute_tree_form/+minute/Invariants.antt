use Rattle.std.proofs.Common.{◌+◌, ◌*◌}
use Rattle.serde_json.specs.Data.{depth}
use Rattle.serde_json.specs.View.{view}
use Rattle.cs_cert.proofs.minute_tree_form.+minute.Given as goal

abbrev pub decreases-read_tree : goal.decreases-read_tree
decreases-read_tree l = 3 * depth (view l.value.now) + 2

abbrev pub decreases-read_split : goal.decreases-read_split
decreases-read_split l = 3 * depth (view l.value.now) + 1

abbrev pub decreases-read_half : goal.decreases-read_half
decreases-read_half l = 3 * depth (view l.value.now)
