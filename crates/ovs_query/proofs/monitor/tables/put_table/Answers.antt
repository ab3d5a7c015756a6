use Rattle.std.proofs.Common.{◌≡◌, true≢false, sym, ap, subst, ◌∙◌}
use Rattle.std.specs.Prelude.{OnOk, option_map}
use Rattle.serde_json.specs.Data.{put}
use Rattle.serde_json.specs.View.{view, members_view}
use Rattle.serde_json.specs.declared.value.Value.TheVariants.{Object}
use Rattle.serde_json.proofs.Views.{view-Object}
use Rattle.ovs_rows.specs.ChangeWriting.{with_some}
use Rattle.ovs_rows.proofs.ChangeWritingLemmas.{entries_none}
use Rattle.ovs_query.proofs.Members.{some_members}
use Rattle.ovs_query.proofs.monitor.tables.put_table.Goals as goal

pub returns-else-is_empty : goal.returns-else-is_empty
returns-else-is_empty c =
    let ms = members_view c.args.members.now.entries in
    let rows = members_view c.args.rows.entries in
    record {
      value = subst (λ ns. OnOk c.put.result (members_view c.put.new.members.entries ≡ ns))
          (ap (λ name. put name (view (Object c.args.rows)) ms) c.as_str.ensures.value
          ∙ ap (λ d. put c.args.name.now d ms) (view-Object c.args.rows)
          ∙ sym (ap (λ o. with_some ms (option_map (λ d. (c.args.name.now, d)) o)) (some_members rows (λ none. true≢false (sym (c.is_empty.ensures.1 (entries_none c.args.rows.entries none)) ∙ c.if-is_empty.false)))))
          c.put.ensures.value;
    }
