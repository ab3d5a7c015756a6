use Rattle.std.proofs.Common.{◌<◌, ◌≢◌, ◌^◌, ℕ, Some, None, ◌≡◌, ◌∙◌, ◌*◌, ◌+◌, ◌++◌, ◌∷◌, [], List, length, refl, sym, ap, subst, arith, rules}
use Rattle.std.proofs.Common.{length-append}
use Rattle.ovs_desk.specs.declared.forwarded.Forwarded.{Forwarded}
use Rattle.ovs_desk.specs.declared.forwarded.ForwardedState.TheVariants.{Waiting}
use Rattle.std.specs.List.{AllByRecursion}
use Rattle.ovs_desk.specs.declared.by_asker.ByAsker.{ByAsker}
use Rattle.ovs_desk.specs.Book.{IsBook, IsIndex}
use Rattle.ovs_desk.specs.ByAsker.{InOrder, by_asker, put}
use Rattle.ovs_desk.specs.Ledger.{Forwarding, place_of, refusal}
use Rattle.std.specs.Prelude.{⊤, vec_len, vec_capacity}
use Rattle.slab.specs.Slab.{Slab, get, Updates}
use Rattle.ovs_desk.proofs.Numbers.{one_more}
use Rattle.ovs_desk.proofs.Places.{placed_more, same_placed, place_of_next, vacant_apart}
use Rattle.ovs_desk.proofs.Indexes.{all_in_order, as_many, index_more, index_room}
use Rattle.ovs_desk.proofs.Steps.{book_room}
use Rattle.ovs_desk.proofs.forwards.Forwards.send.Goals as goal

pub invariant_of-self : goal.invariant_of-self
invariant_of-self c =
    let f = c.self.inside in
    subst (λ (l : List Forwarded). IsBook f.sent l c.make_room.new.places × IsIndex f.sent l f.waits_from f.by_asker.items f.due.items (vec_capacity f.due)) (sym c.make_room.ensures.pending) (
      book_room f.sent f.pending.items f.places c.make_room.new.places c.make_room.ensures.places c.make_room.ensures.len c.self.invariant.0,
      c.self.invariant.1,
    )

pub invariant_of-self-then-is_err-2 : goal.invariant_of-self-then-is_err-2
invariant_of-self-then-is_err-2 c =
    let f = c.self.inside in
    let lists = c.make_list_room in
    let index = index_room c.self.invariant.1 (vec_capacity lists.new.due) lists.ensures.capacity in
    subst (λ (l : List Forwarded). IsBook f.sent l c.make_room.new.places × IsIndex f.sent l f.waits_from lists.new.all.items lists.new.due.items (vec_capacity lists.new.due))
    (sym c.make_room.ensures.pending) (
      book_room f.sent f.pending.items f.places c.make_room.new.places c.make_room.ensures.places c.make_room.ensures.len c.self.invariant.0,
      subst (λ (l : List ByAsker). IsIndex f.sent f.pending.items f.waits_from l lists.new.due.items (vec_capacity lists.new.due)) (sym lists.ensures.all)
          (subst (λ (l : List ByAsker). IsIndex f.sent f.pending.items f.waits_from f.by_asker.items l (vec_capacity lists.new.due)) (sym lists.ensures.due) index),
    )

pub put-requires-clause-in_order : goal.put-requires-clause-in_order
put-requires-clause-in_order c = subst (λ (l : List ByAsker). InOrder l) (sym c.make_list_room.ensures.all) (all_in_order c.self.invariant.1)

pub invariant_of-self-2 : goal.invariant_of-self-2
invariant_of-self-2 c =
    let f = c.self.inside in
    let place = c.vacant_key-place.result in
    let s : Slab ⊤ = c.make_room.new.places in
    let t : Slab ⊤ = c.insert_reserved.new.self in
    let e : Forwarded = record { asker = c.args.asker; id = c.args.id; number = 4096 * f.sent + place; state = Waiting c.args.request } in
    let items = c.push_reserved.ensures.items ∙ ap (λ (l : List Forwarded). l ++ e ∷ []) c.make_room.ensures.pending in
    let same : c.insert_reserved.result ≡ place = c.insert_reserved.ensures.key ∙ sym c.vacant_key-place.ensures.value in
    let u : Updates s t place (Some tt) = subst (λ (k : ℕ). Updates s t k (Some tt)) same c.insert_reserved.ensures.updates in
    let none : get s place ≡ None = c.vacant_key-place.ensures.vacant in
    let is : place ≡ f.places.vacant_key = c.vacant_key-place.ensures.value ∙ c.make_room.ensures.vacant in
    let seen_place : f.places.vacant_key ≡ c.args.self.now.offered = ap (λ (v : Forwarding). v.offered) c.self.view_is in
    let seen_sent : f.sent ≡ c.args.self.now.ledger.sent = ap (λ (v : Forwarding). v.ledger.sent) c.self.view_is in
    let below : c.args.self.now.offered < 4096 = c.in_default.ensures.place in
    let fewer : c.args.self.now.ledger.sent < 2 ^ 50 = c.in_default.ensures.number in
    let offered : place < 4096 = omega (arith, is, seen_place, below) in
    let sent : f.sent < 2 ^ 50 = omega (arith, seen_sent, fewer) in
    let longer : length (f.pending.items ++ e ∷ []) ≡ length f.pending.items + 1 = length-append f.pending.items (e ∷ []) in
    let counted = c.self.invariant.0.counted in
    let room = c.make_room.ensures.len in
    let more = c.insert_reserved.ensures.len in
    let lists = c.make_list_room in
    let all = c.put.ensures.items ∙ ap (put (by_asker e)) lists.ensures.all in
    let many = as_many c.self.invariant.1 in
    let same_many = ap (λ (l : List ByAsker). length l) lists.ensures.all in
    let len = lists.new.all.ok.0 in
    let more_room : vec_len lists.new.all < vec_capacity lists.new.due = search rules in
    let fits : length f.pending.items < vec_capacity lists.new.due = omega (arith, many, same_many, len, more_room) in
    let index = index_more c.self.invariant.1 e (vec_capacity lists.new.due) refl (omega arith) fits in
    let index_as : IsIndex (f.sent + 1) (f.pending.items ++ e ∷ []) f.waits_from c.put.new.list.items lists.new.due.items (vec_capacity lists.new.due) =
    subst (λ (l : List ByAsker). IsIndex (f.sent + 1) (f.pending.items ++ e ∷ []) f.waits_from l lists.new.due.items (vec_capacity lists.new.due)) (sym all)
    (subst (λ (l : List ByAsker). IsIndex (f.sent + 1) (f.pending.items ++ e ∷ []) f.waits_from (put (by_asker e) f.by_asker.items) l (vec_capacity lists.new.due)) (sym lists.ensures.due) index) in
    let book : IsBook (f.sent + 1) (f.pending.items ++ e ∷ []) t = record {
      few = omega (arith, sent);
      ascend = one_more 0 (4096 * f.sent) (4096 * (f.sent + 1)) f.pending.items e c.self.invariant.0.ascend (omega arith) (omega (arith, offered));
      placed = placed_more s t place f.pending.items e (same_placed f.places s f.pending.items c.make_room.ensures.places c.self.invariant.0.placed) u none
          (place_of_next f.sent place offered);
      counted = omega (arith, longer, counted, room, more);
    } in
    subst (λ (l : List Forwarded). IsBook (f.sent + 1) l t × IsIndex (f.sent + 1) l f.waits_from c.put.new.list.items lists.new.due.items (vec_capacity lists.new.due)) (sym items) (book, index_as)

pub returns-clause-value : goal.returns-clause-value
returns-clause-value c =
    let f = c.self.inside in
    let place = c.vacant_key-place.result in
    let e : Forwarded = record { asker = c.args.asker; id = c.args.id; number = 4096 * f.sent + place; state = Waiting c.args.request } in
    let items = c.push_reserved.ensures.items ∙ ap (λ (l : List Forwarded). l ++ e ∷ []) c.make_room.ensures.pending in
    let is : place ≡ f.places.vacant_key = c.vacant_key-place.ensures.value ∙ c.make_room.ensures.vacant in
    let none : refusal c.args.self.now ≡ None = sym c.in_default.ensures.value in
    let vacant : get f.places place ≡ None = sym (c.make_room.ensures.places place) ∙ c.vacant_key-place.ensures.vacant in
    let below : c.args.self.now.offered < 4096 = c.in_default.ensures.place in
    let number = ap (λ (k : ℕ). 4096 * f.sent + k) is in
    rw (← c.self.view_is) (
      subst (λ (v : Forwarding). refusal v ≡ None) (sym c.self.view_is) none,
      number,
      (
        (
          f.places.vacant_key,
          subst (λ (v : Forwarding). v.offered < 4096) (sym c.self.view_is) below,
          number,
          subst (λ (k : ℕ). AllByRecursion (λ (e : Forwarded). place_of e.number ≢ k) f.pending.items) is (vacant_apart f.places place f.pending.items c.self.invariant.0.placed vacant),
        ),
        ap (λ (l : List Forwarded). record { sent = f.sent + 1; pending = l }) items,
      ),
    )
