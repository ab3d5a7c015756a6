use Rattle.std.proofs.Common.{◌≡◌, ◌∷◌, ◌+◌, drop, map, ap, subst, sym, ◌∙◌}
use Rattle.std.specs.Prelude.{option_map}
use Rattle.std.specs.List.{AllByRecursion}
use Rattle.serde_json.specs.View.{members_view}
use Rattle.ovs_types.specs.Id.{id_text}
use Rattle.ovs_rows.specs.Applied.{seen}
use Rattle.ovs_rows.specs.ChangeWriting.{with_some}
use Rattle.ovs_rows.proofs.PlacingSteps.{drop-at}
use Rattle.ovs_query.specs.Telling.{told_member, IsSpelledRow}
use Rattle.ovs_query.proofs.Members.{next_put}
use Rattle.ovs_query.proofs.Spelled.{row_spelled}
use Rattle.ovs_query.proofs.monitor.updates.told_rows.Goals as goal

pub loop-touched-preserved : goal.loop-touched-preserved
loop-touched-preserved c =
    let t = c.touched-item.result in
    let rest = drop (c.loop-touched.touched-index + 1) c.args.rows.now in
    let next : drop c.loop-touched.touched-index c.args.rows.now ≡ t ∷ rest = drop-at c.args.rows.now c.loop-touched.touched-index t c.loop-touched-test.true c.touched-item.is in
    let ms = members_view c.loop-touched.members.entries in
    record {
      tellable = (rw next at c.loop-touched.invariant.tellable).1;
      whole = next_put (told_member c.args.notation c.args.watched.now) (map seen (drop c.loop-touched.touched-index c.args.rows.now)) ms _ c.loop-touched.invariant.whole (seen t) (map seen rest) _
          (ap (map seen) next)
          (c.in_ok-put_row.ensures.value ∙ ap (λ o. with_some ms (option_map (λ d. (id_text t.place.id, d)) o)) c.in_ok-row.ensures.value);
      spelled = λ left.
          c.loop-touched.invariant.spelled (subst (λ ts. AllByRecursion (IsSpelledRow c.args.notation c.args.watched.now) (map seen ts)) (sym next)
          (row_spelled c.args.notation c.args.watched.now (seen t) c.in_ok-row.row c.in_ok-row.ensures.value c.in_ok-row.ensures.spelled c.in_ok-put_row.ensures.spelled, left));
    }
