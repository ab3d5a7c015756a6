use Rattle.std.proofs.Common.{◌∙◌, cond, ap, arith}
use Rattle.std.specs.List.{insert}
use Rattle.ovs_desk.specs.ByAsker.{place}
use Rattle.ovs_desk.proofs.ByAskers.{place_within, put_at_place}
use Rattle.ovs_desk.proofs.by_asker.put.Goals as goal

pub insert-requires : goal.insert-requires
insert-requires c =
    let within = place_within c.args.one c.deref.result.now in
    let at = c.place-at.ensures.value in
    let len = c.deref.ensures.len in
    omega (arith, within, at, len)

pub returns-clause-items : goal.returns-clause-items
returns-clause-items c =
    let items = c.args.list.now.items in
    let at = c.place-at.ensures.value ∙ ap (place c.args.one) c.deref.ensures.value in
    c.insert.ensures.items ∙ ap (λ b. cond b (insert items c.place-at.result c.args.one) items) (c.insert.ensures.succeeds c.requires.room)
    ∙ ap (λ n. insert items n c.args.one) at ∙ put_at_place c.args.one items
