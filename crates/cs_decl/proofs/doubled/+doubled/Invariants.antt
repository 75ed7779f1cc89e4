use Rattle.std.proofs.Common.{◌≡◌, drop, length}
use Rattle.json.specs.Tree.{json_tokens, items_tokens, members_tokens}
use Rattle.json.specs.Value.{value_view, items_view, members_view}
use Rattle.cs_decl.specs.Doubled.{doubled_in_items, doubled_in_members}
use Rattle.cs_decl.proofs.doubled.+doubled.Given as goal

abbrev pub decreases-in_value : goal.decreases-in_value
decreases-in_value l = length (json_tokens (value_view l.value.now))

abbrev pub decreases-in_items : goal.decreases-in_items
decreases-in_items l = length (items_tokens (items_view l.items.now.items))

abbrev pub decreases-in_members : goal.decreases-in_members
decreases-in_members l = length (members_tokens (members_view l.members.now.items))

abbrev pub invariant-in_items-loop-item : goal.invariant-in_items-loop-item
invariant-in_items-loop-item l = doubled_in_items (items_view (drop l.item-index l.item-items)) ≡ doubled_in_items (items_view l.item-items)

abbrev pub invariant-in_members-loop-member : goal.invariant-in_members-loop-member
invariant-in_members-loop-member l = doubled_in_members (members_view (drop l.member-index l.member-items)) ≡ doubled_in_members (members_view l.member-items)
