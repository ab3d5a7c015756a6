use Rattle.std.proofs.Common.{◌≡◌, drop}
use Rattle.std.specs.Slice.Iter.{iter_rest}
use Rattle.serde_json.specs.View.{items_view, members_view}
use Rattle.ovs_json.proofs.same.+same.Given as goal

-- the items are equal exactly where those that are left are
abbrev pub invariant-same_items-loop-item : goal.invariant-same_items-loop-item
invariant-same_items-loop-item l = record {
  rest : items_view (drop l.item-index l.left) ≡ items_view (iter_rest l.other_items) → items_view l.left ≡ items_view l.right;
  whole : items_view l.left ≡ items_view l.right → items_view (drop l.item-index l.left) ≡ items_view (iter_rest l.other_items);
}

-- the members are equal exactly where those that are left are
abbrev pub invariant-same_members-loop-name : goal.invariant-same_members-loop-name
invariant-same_members-loop-name l = record {
  rest : members_view l.name-iterator ≡ members_view l.other_members → members_view l.left.entries ≡ members_view l.right.entries;
  whole : members_view l.left.entries ≡ members_view l.right.entries → members_view l.name-iterator ≡ members_view l.other_members;
}
