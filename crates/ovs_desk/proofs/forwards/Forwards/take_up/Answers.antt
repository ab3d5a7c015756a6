use Rattle.std.proofs.Common.{◌∙◌, List, Some, refl, sym, ap, subst}
use Rattle.std.specs.Prelude.{position, option_and_then, vec_capacity}
use Rattle.ovs_desk.specs.declared.forwarded.Forwarded.{Forwarded}
use Rattle.ovs_desk.specs.declared.forwarded.RequestFilter.TheVariants.{ToGo}
use Rattle.ovs_desk.specs.Book.{IsBook, IsIndex}
use Rattle.ovs_desk.specs.Ledger.{Forwarding, passes, message_of, taken}
use Rattle.ovs_desk.proofs.Firsts.{hit, miss}
use Rattle.ovs_desk.proofs.Indexes.{index_taken}
use Rattle.ovs_desk.proofs.Steps.{changed_to, book_changed, goes_up}
use Rattle.ovs_desk.proofs.forwards.Forwards.take_up.Goals as goal

pub returns-in_err-at-clause-message : goal.returns-in_err-at-clause-message
returns-in_err-at-clause-message c =
    let none = miss (passes ToGo) c.self.inside.pending.items (ap (λ (v : Forwarding). position (passes ToGo) v.ledger.pending) c.self.view_is ∙ sym c.in_err-at.ensures.value) in
    rw (← c.self.view_is) (c.from_residual.ensures ∙ sym (ap (option_and_then message_of) none.found))

pub returns-in_err-at-clause-after : goal.returns-in_err-at-clause-after
returns-in_err-at-clause-after c =
    let none = miss (passes ToGo) c.self.inside.pending.items (ap (λ (v : Forwarding). position (passes ToGo) v.ledger.pending) c.self.view_is ∙ sym c.in_err-at.ensures.value) in
    (refl, rw (← c.self.view_is) (sym (ap (λ (l : List Forwarded). record { sent = c.self.inside.sent; pending = l }) (none.changed taken))))

pub take_up-requires : goal.take_up-requires
take_up-requires c =
    let at = ap (λ (v : Forwarding). position (passes ToGo) v.ledger.pending) c.self.view_is ∙ sym c.in_ok-at.ensures.value in
    let one = hit (passes ToGo) c.self.inside.pending.items c.in_ok-at.at c.index_mut.result.now at in
    record { waits = ap (passes ToGo) c.index_mut.ensures.value ∙ one.passes }

pub invariant_of-self : goal.invariant_of-self
invariant_of-self c =
    let es = c.self.inside.pending.items in
    let at = ap (λ (v : Forwarding). position (passes ToGo) v.ledger.pending) c.self.view_is ∙ sym c.in_ok-at.ensures.value in
    let same = changed_to (passes ToGo) taken es c.in_ok-at.at c.index_mut.result.now c.take_up.new.self at c.index_mut.ensures.value c.take_up.ensures.after in
    let one = hit (passes ToGo) es c.in_ok-at.at c.index.result.now at in
    let found = one.found ∙ ap (λ (e : Forwarded). Some e) (sym c.index.ensures) in
    subst (λ (l : List Forwarded). IsBook c.self.inside.sent l c.self.inside.places
    × IsIndex c.self.inside.sent l c.index.result.now.number c.self.inside.by_asker.items c.self.inside.due.items (vec_capacity c.self.inside.due)) (sym same) (
      book_changed (passes ToGo) taken (λ e. refl) c.self.inside.sent es c.self.inside.places c.self.invariant.0,
      index_taken c.self.invariant.1 c.index.result.now c.self.invariant.0.ascend found,
    )

pub returns-clause-message : goal.returns-clause-message
returns-clause-message c =
    let at = ap (λ (v : Forwarding). position (passes ToGo) v.ledger.pending) c.self.view_is ∙ sym c.in_ok-at.ensures.value in
    let one = hit (passes ToGo) c.self.inside.pending.items c.in_ok-at.at c.index_mut.result.now at in
    rw (← c.self.view_is) (c.take_up.ensures.message ∙ ap message_of c.index_mut.ensures.value ∙ sym (ap (option_and_then message_of) one.found))

pub returns-clause-after : goal.returns-clause-after
returns-clause-after c =
    let es = c.self.inside.pending.items in
    let at = ap (λ (v : Forwarding). position (passes ToGo) v.ledger.pending) c.self.view_is ∙ sym c.in_ok-at.ensures.value in
    let same = changed_to (passes ToGo) taken es c.in_ok-at.at c.index_mut.result.now c.take_up.new.self at c.index_mut.ensures.value c.take_up.ensures.after in
    (refl, rw (← c.self.view_is) (ap (λ (l : List Forwarded). record { sent = c.self.inside.sent; pending = l }) same))

pub returns-clause-none : goal.returns-clause-none
returns-clause-none c =
    let at = ap (λ (v : Forwarding). position (passes ToGo) v.ledger.pending) c.self.view_is ∙ sym c.in_ok-at.ensures.value in
    let one = hit (passes ToGo) c.self.inside.pending.items c.in_ok-at.at c.index_mut.result.now at in
    goes_up c.index_mut.result.now c.take_up.result _ c.take_up.ensures.message (ap (passes ToGo) c.index_mut.ensures.value ∙ one.passes)
