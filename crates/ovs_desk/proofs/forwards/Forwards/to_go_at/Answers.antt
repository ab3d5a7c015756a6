use Rattle.std.proofs.Common.{◌≡◌, ◌∙◌, ◌*◌, ◌+◌, ◌≤◌, ℕ, List, Some, None, true, false, drop, length, sym, ap, subst}
use Rattle.std.specs.Prelude.{nat_lt, option_map, position}
use Rattle.std.proofs.lemmas.List.{take_rest}
use Rattle.std.specs.List.Sorted.{IsPartitionPoint}
use Rattle.ovs_desk.specs.declared.forwarded.Forwarded.{Forwarded}
use Rattle.ovs_desk.specs.declared.forwarded.RequestFilter.TheVariants.{ToGo}
use Rattle.ovs_desk.specs.Book.{AscendIn}
use Rattle.ovs_desk.specs.Ledger.{Forwarding, passes}
use Rattle.ovs_desk.proofs.Indexes.{WaitFrom, none_waits, position_after}
use Rattle.ovs_desk.proofs.Search.{nondecreasing}
use Rattle.ovs_desk.proofs.forwards.Forwards.to_go_at.Goals as goal

-- none waits before the place, so that a search may begin there
from_there : (es lent : List Forwarded) (low from : ℕ) → WaitFrom low es → lent ≡ es → from ≤ length lent
    → IsPartitionPoint (λ (e : Forwarded). nat_lt e.number low ≡ true) (λ (e : Forwarded). nat_lt e.number low ≡ false) lent from
    → position (passes ToGo) es ≡ option_map (λ n. from + n) (position (passes ToGo) (drop from es))
from_there es lent low from up same within parts =
    let inside = subst (λ (l : List Forwarded). from ≤ length l) same within in
    let place = subst (λ (l : List Forwarded). IsPartitionPoint (λ (e : Forwarded). nat_lt e.number low ≡ true) (λ (e : Forwarded). nat_lt e.number low ≡ false) l from) same parts in
    position_after (passes ToGo) es from inside (none_waits low es from up inside place)

pub at_number-from-requires : goal.at_number-from-requires
at_number-from-requires c =
    let high = 4096 * c.self.inside.sent in
    let ascend = subst (λ (l : List Forwarded). AscendIn 0 high l) (sym c.deref.ensures.value) c.self.invariant.0.ascend in
    record { ascend = nondecreasing 0 high c.deref.result.now ascend }

pub returns-in_err-more : goal.returns-in_err-more
returns-in_err-more c =
    let f = c.self.inside in
    let from = c.at_number-from.result in
    let whole = from_there f.pending.items c.deref.result.now f.waits_from from c.self.invariant.1.up c.deref.ensures.value c.at_number-from.ensures.bound c.at_number-from.ensures.value in
    let none : position (passes ToGo) (drop from f.pending.items) ≡ None = ap (λ (l : List Forwarded). position (passes ToGo) (drop from l)) (sym c.deref-2.ensures.value)
    ∙ ap (λ (l : List Forwarded). position (passes ToGo) l) (sym (take_rest c.deref-2.result.now from)) ∙ sym c.in_err-more.ensures.value in
    record {
      value = c.from_residual.ensures ∙ sym (whole ∙ ap (option_map (λ n. from + n)) none) ∙ ap (λ (v : Forwarding). position (passes ToGo) v.ledger.pending) c.self.view_is;
    }

pub returns : goal.returns
returns c =
    let f = c.self.inside in
    let from = c.at_number-from.result in
    let whole = from_there f.pending.items c.deref.result.now f.waits_from from c.self.invariant.1.up c.deref.ensures.value c.at_number-from.ensures.bound c.at_number-from.ensures.value in
    let some : position (passes ToGo) (drop from f.pending.items) ≡ Some c.in_ok-more.more =
    ap (λ (l : List Forwarded). position (passes ToGo) (drop from l)) (sym c.deref-2.ensures.value)
    ∙ ap (λ (l : List Forwarded). position (passes ToGo) l) (sym (take_rest c.deref-2.result.now from)) ∙ sym c.in_ok-more.ensures.value in
    record {
      value = sym (whole ∙ ap (option_map (λ n. from + n)) some) ∙ ap (λ (v : Forwarding). position (passes ToGo) v.ledger.pending) c.self.view_is;
    }
