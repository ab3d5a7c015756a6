use Rattle.std.proofs.Common.{subst, List, ℕ}
use Rattle.ovs_wire.specs.Framing.{Feeds}
use Rattle.ovs_session.specs.Serving.{SessionValue}
use Rattle.ovs_session.proofs.Served.{fed_all}
use Rattle.ovs_session.proofs.session.Session.feed.Goals as goal

pub returns-clause-fed : goal.returns-clause-fed
returns-clause-fed g c =
    let f = c.feed.new.self in
    let inbox = c.self.inside.inbox in
    let fed : Feeds inbox c.self.inside.unfed.items f =
    subst (λ (l : List ℕ). Feeds inbox l f) c.deref.ensures.value c.in_ok-feed.ensures.fed in
    (f, subst (λ (z : SessionValue g.row.C.Denot). Feeds z.framing z.unfed f) c.self.view_is fed, fed_all _ _ _ f c.self.view_is c.clear.ensures.items)
