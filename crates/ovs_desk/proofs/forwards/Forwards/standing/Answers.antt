use Rattle.std.proofs.Common.{◌≡◌, ◌∙◌, Some, sym, ap}
use Rattle.std.specs.Prelude.{Option, option_map, position}
use Rattle.std.specs.List.{find}
use Rattle.ovs_desk.specs.declared.forwarded.Forwarded.{Forwarded}
use Rattle.ovs_desk.specs.declared.forwarded.RequestFilter.TheVariants.{Due}
use Rattle.ovs_desk.specs.Ledger.{Forwarding, passes, standing_of, next_standing}
use Rattle.ovs_desk.proofs.Firsts.{hit, miss}
use Rattle.ovs_desk.proofs.forwards.Forwards.standing.Goals as goal

pub returns-in_err-at : goal.returns-in_err-at
returns-in_err-at c =
    let none = miss (passes (Due c.args.session)) c.args.self.now.ledger.pending (sym c.in_err-at.ensures.value) in
    record { value = c.from_residual.ensures ∙ sym (ap (λ (o : Option Forwarded). option_map standing_of o) none.found) }

pub returns : goal.returns
returns c =
    let test = passes (Due c.args.session) in
    let es = c.self.inside.pending.items in
    let at = ap (λ (f : Forwarding). position test f.ledger.pending) c.self.view_is ∙ sym c.in_ok-at.ensures.value in
    let one = hit test es c.in_ok-at.at c.index.result.now at in
    let found : find test es ≡ Some c.index.result.now = one.found ∙ ap (λ (e : Forwarded). Some e) (sym c.index.ensures) in
    record {
      value = ap (λ n. Some n) c.standing.ensures.value ∙ sym (ap (λ (o : Option Forwarded). option_map standing_of o) found)
          ∙ ap (λ (f : Forwarding). next_standing c.args.session f.ledger) c.self.view_is;
    }
