use Rattle.std.proofs.Common.{◌≡◌, sym, subst}
use Rattle.ovs_wire.specs.Framing.{Framing}
use Rattle.ovs_session.specs.Moving.{fault_in}
use Rattle.ovs_session.specs.Room.{HasRoom}
use Rattle.ovs_session.proofs.Room.{taken_room}
use Rattle.ovs_session.proofs.inbox.Inbox.take.Goals as goal

pub invariant_of-self-2 : goal.invariant_of-self-2
invariant_of-self-2 c =
    let i = c.self.inside in
    subst (λ (f : Framing). (i.fault ≡ fault_in f.ending) × HasRoom f i.most i.piece i.piece) (sym c.next.follows.holds-at-none)
    (c.self.invariant.0, taken_room i.framer i.most i.rest i.piece _ _ c.self.invariant.1 c.in-Some.ensures.some.0)
