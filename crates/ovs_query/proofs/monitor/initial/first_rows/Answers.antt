use Rattle.std.proofs.Common.{ap, ◌∙◌}
use Rattle.std.specs.Prelude.{option_map}
use Rattle.serde_json.specs.View.{members_view}
use Rattle.ovs_types.specs.Id.{id_text}
use Rattle.ovs_rows.specs.ChangeWriting.{with_some}
use Rattle.ovs_query.specs.Telling.{first_member}
use Rattle.ovs_query.proofs.Members.{next_put}
use Rattle.ovs_query.proofs.monitor.initial.first_rows.Goals as goal

pub loop-place-preserved : goal.loop-place-preserved
loop-place-preserved c =
    let place = c.in-Some.place.now in
    let ms = members_view c.loop-place.members.entries in
    next_put (first_member c.args.notation c.args.watched.now) c.loop-place.place-iterator ms _ c.loop-place.invariant (place, c.in-Some.row.now) c.next.new.self _ c.in-Some.ensures.steps
    (c.in_ok-put_row.ensures.value ∙ ap (λ o. with_some ms (option_map (λ d. (id_text place.id, d)) o)) (rw c.row.ensures.value at c.in_ok-first.ensures.value))
