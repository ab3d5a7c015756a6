use Rattle.std.proofs.Common.{◌≡◌, ap, sym, subst}
use Rattle.ovs_node.specs.Ledger.{IsAccountOf}
use Rattle.ovs_node.proofs.Sent.{held_sent, sent_held, none_forked}
use Rattle.ovs_node.proofs.intake.Intake.close.Goals as goal

pub returns-clause-account : goal.returns-clause-account
returns-clause-account g c = rw (← c.self.view_is) c.self.invariant.1

pub returns-clause-held : goal.returns-clause-held
returns-clause-held g c =
    let k : IsAccountOf c.args.self = rw (← c.self.view_is) c.self.invariant.1 in
    held_sent _ k c.requires.taken c.requires.drained c.requires.back

pub returns-clause-whole : goal.returns-clause-whole
returns-clause-whole g c =
    let k : IsAccountOf c.args.self = rw (← c.self.view_is) c.self.invariant.1 in
    sent_held _ k c.requires.taken c.requires.drained c.requires.back

pub returns-clause-agree : goal.returns-clause-agree
returns-clause-agree g c =
    let k : IsAccountOf c.args.self = rw (← c.self.view_is) c.self.invariant.1 in
    none_forked _ k c.requires.taken c.requires.drained c.requires.back
