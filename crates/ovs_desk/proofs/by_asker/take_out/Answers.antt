use Rattle.std.proofs.Common.{◌≡◌, ◌∙◌, true, false, sym, ap}
use Rattle.std.specs.Prelude.{slice_get}
use Rattle.std.specs.List.{remove}
use Rattle.ovs_desk.specs.ByAsker.{is_this, place}
use Rattle.ovs_desk.proofs.ByAskers.{without_at, without_none}
use Rattle.ovs_desk.proofs.by_asker.take_out.Goals as goal

pub returns-then-stands_at-clause-items : goal.returns-then-stands_at-clause-items
returns-then-stands_at-clause-items c =
    let items = c.args.list.now.items in
    let one = c.args.one.now in
    let at = c.place-at.ensures.value ∙ ap (place one) c.deref.ensures.value in
    let this : is_this one (slice_get items (place one items)) ≡ true =
    sym (c.stands_at.ensures.value ∙ (λ i. is_this one (slice_get (c.deref-2.ensures.value i) (at i)))) ∙ c.if-stands_at.true in
    c.remove.ensures.items ∙ ap (remove items) at ∙ without_at one items this

pub returns-else-stands_at-clause-items : goal.returns-else-stands_at-clause-items
returns-else-stands_at-clause-items c =
    let items = c.args.list.now.items in
    let one = c.args.one.now in
    let at = c.place-at.ensures.value ∙ ap (place one) c.deref.ensures.value in
    let this : is_this one (slice_get items (place one items)) ≡ false =
    sym (c.stands_at.ensures.value ∙ (λ i. is_this one (slice_get (c.deref-2.ensures.value i) (at i)))) ∙ c.if-stands_at.false in
    sym (without_none one items this)
