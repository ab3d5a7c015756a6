use Rattle.std.proofs.Common.{rules, ◌≡◌, ap, ◌∙◌}
use Rattle.ovs_links.specs.Absorbing.{folded_by}
use Rattle.ovs_links.specs.Steps.{FoldedValue}
use Rattle.ovs_reader.specs.Telling.{after_some}
use Rattle.ovs_views.specs.Published.{GoesOn, ViewSessionValue}
use Rattle.ovs_views.proofs.Next.{session_shown}
use Rattle.ovs_views.proofs.view_session.ViewSession.pump.Goals as goal

pub pump_some-requires-clause-shown : goal.pump_some-requires-clause-shown
pump_some-requires-clause-shown g c =
    let schema = g.K.NodeName.schema in
    let goes : GoesOn schema c.self.inside.last c.args.shown.now = search rules in
    rw c.folded.ensures.value (session_shown schema c.self.inside.last c.args.shown.now c.self.inside.session goes c.self.invariant)

pub returns-clause-after : goal.returns-clause-after
returns-clause-after g c =
    let schema = g.K.NodeName.schema in
    let most = c.args.most in
    let session : c.pump_some.new.self ≡ after_some most c.args.self.now.session (folded_by schema c.args.shown.now) =
    c.in_ok-messages.ensures.after ∙ ap (λ (f : FoldedValue). after_some most c.self.inside.session f) c.folded.ensures.value
    ∙ ap (λ (v : ViewSessionValue). after_some most v.session (folded_by schema c.args.shown.now)) c.self.view_is in
    let last : c.in_ok-last.last ≡ c.args.shown.now = search rules in
    (λ i. record { session = session i; last = last i })
