use Rattle.std.proofs.Common.{◌≡◌, List, sym, subst, ap, ◌∙◌}
use Rattle.std.specs.FinMap.{entries, from_entries, same_entries_map}
use Rattle.std.specs.List.Sorted.{IsStrictlySortedBy}
use Rattle.std.specs.Map.{keys_of}
use Rattle.ovs_rows.specs.declared.change.Action.{Action}
use Rattle.ovs_rows.specs.declared.row_key.RowKey.{RowKey}
use Rattle.ovs_rows.specs.RowKey.{place_cmp, place_total, place_exact}
use Rattle.ovs_data.proofs.Maps.{entries_ascend, entries-from_ordered}
use Rattle.ovs_rows.proofs.change.Change.new.Goals as goal

pub invariant_of-result : goal.invariant_of-result
invariant_of-result c =
    let listed : c.in_ok-new.field-0.value.items ≡ entries c.args.actions = rw c.in_ok-new.ensures.ok c.in_ok-entries.ensures.value in
    subst (λ (es : List (RowKey × Action)). IsStrictlySortedBy place_cmp (keys_of es)) (sym listed) (entries_ascend place_total place_exact c.args.actions)

pub returns : goal.returns
returns c =
    let listed : c.in_ok-new.field-0.value.items ≡ entries c.args.actions = rw c.in_ok-new.ensures.ok c.in_ok-entries.ensures.value in
    record {
      value = ap (λ (es : List (RowKey × Action)). from_entries es) listed
          ∙ same_entries_map (from_entries (entries c.args.actions)) c.args.actions (entries-from_ordered place_total place_exact (entries c.args.actions) (entries_ascend place_total place_exact c.args.actions));
    }
