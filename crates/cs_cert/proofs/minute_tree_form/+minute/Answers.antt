use Rattle.std.proofs.Common.{rules, arith}
use Rattle.serde_json.specs.View.{view}
use Rattle.cs_cert.proofs.Trees.{found_depth, some_seen, minute_leaf, minute_split}
use Rattle.cs_cert.proofs.minute_tree_form.+minute.Goals as goal

pub read_half-read_tree-requires : goal.read_half-read_tree-requires
read_half-read_tree-requires t c = let deeper = found_depth c.args.name.now (view c.args.value.now) (view c.in_ok-value_at.field-0.now) c.in_ok-value_at.ensures in (omega arith, tt)

pub read_tree-returns-then-is_some : goal.read_tree-returns-then-is_some
read_tree-returns-then-is_some t c = rw (minute_leaf _ (some_seen _ _ _ _ c.get.ensures (search rules))) c.read_leaf.ensures

pub read_tree-returns-else-is_some : goal.read_tree-returns-else-is_some
read_tree-returns-else-is_some t c = rw (minute_split _ (some_seen _ _ _ _ c.get.ensures (search rules))) c.read_split.ensures
