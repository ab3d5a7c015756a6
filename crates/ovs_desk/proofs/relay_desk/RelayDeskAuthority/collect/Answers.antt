use Rattle.std.proofs.Common.{◌≡◌, [], subst}
use Rattle.std.specs.Prelude.{Option, IfNone, filter}
use Rattle.ovs_wire.specs.declared.message.Message.{Message}
use Rattle.ovs_desk.specs.declared.forwarded.RequestFilter.TheVariants.{Due}
use Rattle.ovs_desk.specs.Ledger.{passes}
use Rattle.ovs_desk.proofs.Memory.{on_err, none_came}
use Rattle.ovs_desk.proofs.Collected.{sent_given, sent_others, sent_owners, sent_first}
use Rattle.ovs_desk.proofs.relay_desk.RelayDeskAuthority.collect.Goals as goal

pub returns-in-Some-clause-given : goal.returns-in-Some-clause-given
returns-in-Some-clause-given c =
    sent_given c.args.session c.args.self.now c.collect_sent.new.self c.in_ok-message.field-0 c.in_ok-message.ensures.given c.in-Some.message c.in-Some.is

pub returns-in-Some-clause-others : goal.returns-in-Some-clause-others
returns-in-Some-clause-others c =
    sent_others c.args.session c.args.self.now c.collect_sent.new.self c.in_ok-message.field-0 c.in_ok-message.ensures.given

pub returns-in-Some-clause-owners : goal.returns-in-Some-clause-owners
returns-in-Some-clause-owners c =
    sent_owners c.args.session c.args.self.now c.collect_sent.new.self c.in_ok-message.field-0 c.in_ok-message.ensures.given

pub returns-in-Some-clause-does : goal.returns-in-Some-clause-does
returns-in-Some-clause-does c =
    sent_first c.args.session c.args.self.now c.collect_sent.new.self c.in_ok-message.field-0 c.in-Some.message c.in-Some.is c.in_ok-message.ensures.given

pub returns-in-None-clause-memory : goal.returns-in-None-clause-memory
returns-in-None-clause-memory c =
    let session = c.args.session in
    let mid = c.collect_sent.new.self in
    let same : mid ≡ c.args.self.now = subst (λ (o : Option Message). IfNone o (mid ≡ c.args.self.now)) c.in-None.is c.in_ok-message.ensures.none in
    let none = subst (λ (o : Option Message). IfNone o (filter (passes (Due session)) mid.forwards.ledger.pending ≡ [])) c.in-None.is c.in_ok-message.ensures.none_sent in
    on_err _ c.collect_of_lock.result (none_came session c.args.self.now mid same none)
