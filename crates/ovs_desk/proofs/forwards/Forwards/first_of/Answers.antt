use Rattle.std.proofs.Common.{◌≡◌, ◌∙◌, ◌*◌, List, Some, None, true, false, sym, ap, subst}
use Rattle.std.specs.Prelude.{nat_lt, position}
use Rattle.std.specs.List.Sorted.{IsPartitionPoint}
use Rattle.ovs_desk.specs.declared.by_asker.ByAsker.{ByAsker}
use Rattle.ovs_desk.specs.declared.forwarded.Forwarded.{Forwarded}
use Rattle.ovs_desk.specs.declared.forwarded.RequestFilter.TheVariants.{Of}
use Rattle.ovs_desk.specs.Book.{AscendIn, is_any}
use Rattle.ovs_desk.specs.ByAsker.{InOrder, first_number}
use Rattle.ovs_desk.specs.Ledger.{Forwarding, passes}
use Rattle.ovs_desk.proofs.Indexes.{no_place, place_of_first, all_in_order, of_is}
use Rattle.ovs_desk.proofs.Search.{nondecreasing}
use Rattle.ovs_desk.proofs.forwards.Forwards.first_of.Goals as goal

pub first_number-requires : goal.first_number-requires
first_number-requires c =
    record { in_order = subst (λ (l : List ByAsker). InOrder l) (sym c.deref.ensures.value) (all_in_order c.self.invariant.1) }

pub returns-in_err-number : goal.returns-in_err-number
returns-in_err-number c =
    let f = c.self.inside in
    let test = passes (Of c.args.session) in
    let none : first_number c.args.session f.by_asker.items ≡ None = ap (first_number c.args.session) (sym c.deref.ensures.value) ∙ sym c.in_err-number.ensures.value in
    let gone = no_place c.args.session is_any test (of_is c.args.session) (4096 * f.sent) f.pending.items c.self.invariant.0.ascend f.by_asker.items c.self.invariant.1.all none in
    record { value = c.from_residual.ensures ∙ sym gone ∙ ap (λ (v : Forwarding). position test v.ledger.pending) c.self.view_is }

pub at_number-requires : goal.at_number-requires
at_number-requires c =
    let high = 4096 * c.self.inside.sent in
    let ascend = subst (λ (l : List Forwarded). AscendIn 0 high l) (sym c.deref-2.ensures.value) c.self.invariant.0.ascend in
    record { ascend = nondecreasing 0 high c.deref-2.result.now ascend }

pub returns : goal.returns
returns c =
    let f = c.self.inside in
    let test = passes (Of c.args.session) in
    let n = c.in_ok-number.number in
    let some : first_number c.args.session f.by_asker.items ≡ Some n = ap (first_number c.args.session) (sym c.deref.ensures.value) ∙ sym c.in_ok-number.ensures.value in
    let parts = subst
    (λ (l : List Forwarded). IsPartitionPoint (λ (e : Forwarded). nat_lt e.number n ≡ true) (λ (e : Forwarded). nat_lt e.number n ≡ false) l c.at_number.result)
    c.deref-2.ensures.value c.at_number.ensures.value in
    let there = place_of_first c.args.session is_any test (of_is c.args.session) (4096 * f.sent) f.pending.items c.self.invariant.0.ascend f.by_asker.items c.self.invariant.1.all n
    c.at_number.result some parts in
    record { value = sym there ∙ ap (λ (v : Forwarding). position test v.ledger.pending) c.self.view_is }
