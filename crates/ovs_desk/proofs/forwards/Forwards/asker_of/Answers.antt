use Rattle.std.proofs.Common.{◌≡◌, ◌∙◌, Some, sym, ap}
use Rattle.std.specs.Prelude.{Option, option_map, position}
use Rattle.std.specs.List.{find}
use Rattle.ovs_desk.specs.declared.forwarded.Forwarded.{Forwarded}
use Rattle.ovs_desk.specs.declared.forwarded.RequestFilter.TheVariants.{Open}
use Rattle.ovs_desk.specs.Ledger.{Forwarding, passes, asker_of}
use Rattle.ovs_desk.proofs.Firsts.{hit, miss}
use Rattle.ovs_desk.proofs.forwards.Forwards.asker_of.Goals as goal

pub returns-in_err-at : goal.returns-in_err-at
returns-in_err-at c =
    let none = miss (passes (Open c.args.number)) c.args.self.now.ledger.pending (sym c.in_err-at.ensures.value) in
    record { value = c.from_residual.ensures ∙ sym (ap (λ (o : Option Forwarded). option_map (λ (e : Forwarded). e.asker) o) none.found) }

pub returns : goal.returns
returns c =
    let test = passes (Open c.args.number) in
    let es = c.self.inside.pending.items in
    let at = ap (λ (f : Forwarding). position test f.ledger.pending) c.self.view_is ∙ sym c.in_ok-at.ensures.value in
    let one = hit test es c.in_ok-at.at c.index.result.now at in
    let found : find test es ≡ Some c.index.result.now = one.found ∙ ap (λ (e : Forwarded). Some e) (sym c.index.ensures) in
    record {
      value = sym (ap (λ (o : Option Forwarded). option_map (λ (e : Forwarded). e.asker) o) found)
          ∙ ap (λ (f : Forwarding). asker_of c.args.number f.ledger) c.self.view_is;
    }
