use Rattle.std.proofs.Common.{Some, None, refl, ◌≡◌, ◌∙◌, ◌*◌, ℕ, List, sym, ap, subst}
use Rattle.std.proofs.lemmas.List.{get_or-set_same}
use Rattle.std.specs.Prelude.{position, option_and_then, option_map, vec_capacity}
use Rattle.slab.specs.Slab.{ContainsKey, Updates}
use Rattle.ovs_desk.specs.declared.forwarded.Forwarded.{Forwarded}
use Rattle.ovs_desk.specs.declared.forwarded.RequestFilter.TheVariants.{Due}
use Rattle.ovs_desk.specs.declared.by_asker.ByAsker.{ByAsker}
use Rattle.ovs_desk.specs.Book.{IsBook, IsIndex}
use Rattle.ovs_desk.specs.ByAsker.{by_asker, without}
use Rattle.ovs_desk.specs.Ledger.{Forwarding, is_lost, place_of, passes, reply_of, without_first}
use Rattle.ovs_desk.proofs.Firsts.{hit, miss}
use Rattle.ovs_desk.proofs.Memory.{on_err}
use Rattle.ovs_desk.proofs.Indexes.{all_in_order, due_in_order, index_without}
use Rattle.ovs_desk.proofs.Steps.{place_taken, book_without, taken_out, reply_settled, goes_back}
use Rattle.ovs_desk.proofs.forwards.Forwards.collect.Goals as goal

pub returns-in_default-clause-message : goal.returns-in_default-clause-message
returns-in_default-clause-message c =
    let test = passes (Due c.args.session) in
    let none = miss test c.self.inside.pending.items (ap (λ (v : Forwarding). position test v.ledger.pending) c.self.view_is ∙ sym c.in_default.ensures.value) in
    rw (← c.self.view_is) (sym (ap (option_and_then reply_of) none.found))

pub returns-in_default-clause-after : goal.returns-in_default-clause-after
returns-in_default-clause-after c =
    let test = passes (Due c.args.session) in
    let none = miss test c.self.inside.pending.items (ap (λ (v : Forwarding). position test v.ledger.pending) c.self.view_is ∙ sym c.in_default.ensures.value) in
    (refl, rw (← c.self.view_is) (sym (ap (λ (l : List Forwarded). record { sent = c.self.inside.sent; pending = l }) none.removed)))

pub invariant_of-self-2 : goal.invariant_of-self-2
invariant_of-self-2 c =
    let test = passes (Due c.args.session) in
    let es = c.self.inside.pending.items in
    let at = ap (λ (v : Forwarding). position test v.ledger.pending) c.self.view_is ∙ sym c.in-Some.ensures.value in
    let one = hit test es c.in-Some.at c.index_mut.result.now at in
    let left = c.remove-pending.ensures.items ∙ taken_out test es c.in-Some.at c.index_mut.result.now c.settle.new.self at in
    let out = c.remove-pending.ensures.value ∙ get_or-set_same es c.in-Some.at c.settle.new.self c.remove-pending.result one.within ∙ c.in_ok-settle.ensures.after in
    let found = one.found ∙ ap (λ (e : Forwarded). Some e) (sym c.index_mut.ensures.value) in
    let u = subst (λ (e : Forwarded). Updates c.self.inside.places c.free.new.places (place_of e.number) None) out c.free.ensures.value in
    let f = c.self.inside in
    let book = book_without test f.sent es f.places c.free.new.places c.index_mut.result.now c.self.invariant.0 found u c.free.ensures.len in
    let index = index_without c.self.invariant.1 test (4096 * f.sent) c.index_mut.result.now c.self.invariant.0.ascend found in
    let entry : by_asker c.remove-pending.result ≡ by_asker c.index_mut.result.now = ap by_asker out in
    let all = c.strike.ensures.all ∙ ap (λ (a : ByAsker). without a f.by_asker.items) entry in
    let due = c.strike.ensures.due ∙ ap (λ (a : ByAsker). without a f.due.items) entry in
    subst (λ (l : List Forwarded). IsBook f.sent l c.free.new.places
    × IsIndex f.sent l f.waits_from c.strike.new.all.items c.strike.new.due.items (vec_capacity c.strike.new.due)) (sym left) (
      book,
      subst (λ (n : ℕ). IsIndex f.sent (without_first test es) f.waits_from c.strike.new.all.items c.strike.new.due.items n) (sym c.strike.ensures.capacity)
          (subst (λ (l : List ByAsker). IsIndex f.sent (without_first test es) f.waits_from l c.strike.new.due.items (vec_capacity f.due)) (sym all)
          (subst (λ (l : List ByAsker). IsIndex f.sent (without_first test es) f.waits_from (without (by_asker c.index_mut.result.now) f.by_asker.items) l (vec_capacity f.due)) (sym due) index)),
    )

pub returns-clause-message : goal.returns-clause-message
returns-clause-message c =
    let test = passes (Due c.args.session) in
    let es = c.self.inside.pending.items in
    let at = ap (λ (v : Forwarding). position test v.ledger.pending) c.self.view_is ∙ sym c.in-Some.ensures.value in
    let one = hit test es c.in-Some.at c.index_mut.result.now at in
    let out = c.remove-pending.ensures.value ∙ get_or-set_same es c.in-Some.at c.settle.new.self c.remove-pending.result one.within ∙ c.in_ok-settle.ensures.after in
    rw (← c.self.view_is) (
    c.into_reply.ensures.value ∙ ap reply_of out ∙ reply_settled c.index_mut.result.now ∙ ap reply_of c.index_mut.ensures.value ∙ sym (ap (option_and_then reply_of) one.found))

pub returns-clause-after : goal.returns-clause-after
returns-clause-after c =
    let test = passes (Due c.args.session) in
    let es = c.self.inside.pending.items in
    let at = ap (λ (v : Forwarding). position test v.ledger.pending) c.self.view_is ∙ sym c.in-Some.ensures.value in
    let left = c.remove-pending.ensures.items ∙ taken_out test es c.in-Some.at c.index_mut.result.now c.settle.new.self at in
    (refl, rw (← c.self.view_is) (ap (λ (l : List Forwarded). record { sent = c.self.inside.sent; pending = l }) left))

pub free-requires : goal.free-requires
free-requires c =
    let test = passes (Due c.args.session) in
    let es = c.self.inside.pending.items in
    let at = ap (λ (v : Forwarding). position test v.ledger.pending) c.self.view_is ∙ sym c.in-Some.ensures.value in
    let one = hit test es c.in-Some.at c.index_mut.result.now at in
    let out = c.remove-pending.ensures.value ∙ get_or-set_same es c.in-Some.at c.settle.new.self c.remove-pending.result one.within ∙ c.in_ok-settle.ensures.after in
    let found = one.found ∙ ap (λ (e : Forwarded). Some e) (sym c.index_mut.ensures.value) in
    record {
      taken = subst (λ (e : Forwarded). ContainsKey c.self.inside.places (place_of e.number)) (sym out)
          (place_taken c.self.inside.places test es c.index_mut.result.now c.self.invariant.0.placed found);
    }

pub returns-clause-none : goal.returns-clause-none
returns-clause-none c =
    let test = passes (Due c.args.session) in
    let es = c.self.inside.pending.items in
    let at = ap (λ (v : Forwarding). position test v.ledger.pending) c.self.view_is ∙ sym c.in-Some.ensures.value in
    let one = hit test es c.in-Some.at c.index_mut.result.now at in
    let out = c.remove-pending.ensures.value ∙ get_or-set_same es c.in-Some.at c.settle.new.self c.remove-pending.result one.within ∙ c.in_ok-settle.ensures.after in
    goes_back c.args.session c.index_mut.result.now c.into_reply.result _ (c.into_reply.ensures.value ∙ ap reply_of out) (ap test c.index_mut.ensures.value ∙ one.passes)

pub strike-requires-clause-all : goal.strike-requires-clause-all
strike-requires-clause-all c = all_in_order c.self.invariant.1

pub strike-requires-clause-due : goal.strike-requires-clause-due
strike-requires-clause-due c = due_in_order c.self.invariant.1

pub returns-in_err-settle-clause-memory : goal.returns-in_err-settle-clause-memory
returns-in_err-settle-clause-memory c =
    let test = passes (Due c.args.session) in
    let at = ap (λ (v : Forwarding). position test v.ledger.pending) c.self.view_is ∙ sym c.in-Some.ensures.value in
    let one = hit test c.self.inside.pending.items c.in-Some.at c.index_mut.result.now at in
    let found = one.found ∙ ap (λ (e : Forwarded). Some e) (sym c.index_mut.ensures.value) in
    rw (← c.self.view_is) (
    on_err _ c.from_residual.result (ap (option_map (λ (e : Forwarded). is_lost e.state)) found ∙ ap Some c.in_err-settle.ensures.memory))
