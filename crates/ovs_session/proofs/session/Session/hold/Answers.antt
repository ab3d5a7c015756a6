use Rattle.std.proofs.Common.{rules, ◌≡◌, ◌∙◌, ap, sym, subst, inr, true, None}
use Rattle.std.specs.Option.{is_some}
use Rattle.std.specs.Prelude.{IfSome}
use Rattle.ovs_wire.specs.Framing.{Takes}
use Rattle.ovs_session.proofs.Served.{now_holds}
use Rattle.ovs_session.proofs.Turning.{some_message}
use Rattle.ovs_session.proofs.session.Session.hold.Goals as goal

pub returns-in-Some-clause-held : goal.returns-in-Some-clause-held
returns-in-Some-clause-held g c =
    let i = c.self.inside in
    let held : i.held ≡ None = search rules in
    let takes = subst (λ r. IfSome r (λ m. Takes i.inbox m c.take.new.self)) c.in-Some.is c.in_ok-message.ensures.some in
    inr (now_holds _ _ c.in-Some.message c.take.new.self c.add_message.new.self c.self.view_is held takes c.add_message.ensures.value)

pub returns-then-is_some-clause-some : goal.returns-then-is_some-clause-some
returns-then-is_some-clause-some g c e =
    let known : is_some c.self.inside.held ≡ true = search rules in
    let found = some_message c.self.inside.held known in
    (found.0, sym (ap (λ z. z.held) c.self.view_is) ∙ found.1)
