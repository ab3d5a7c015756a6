use Rattle.std.proofs.Common.{◌≡◌, ◌∙◌, ap, [], ℕ, Option, Some, None, Result, Ok, Err}
use Rattle.std.specs.Prelude.{IfOk, IfNone, filter}
use Rattle.ovs_json.specs.declared.no_memory.NoMemory.{NoMemory}
use Rattle.ovs_wire.specs.declared.message.Message.{Message}
use Rattle.ovs_desk.specs.declared.forwarded.RequestFilter.TheVariants.{Due}
use Rattle.ovs_desk.specs.Ledger.{Forwarding, passes, next_back}
use Rattle.ovs_desk.proofs.Collected.{none_due}
use Rattle.ovs_desk.proofs.relay_desk.RelayDesk.collect_sent.Goals as goal

none_sent : (session : ℕ) (old new : Forwarding) (r : Result (Option Message) NoMemory) → IfOk r (λ m. m ≡ next_back session old.ledger)
    → IfOk r (λ m. IfNone m (new ≡ old)) → IfOk r (λ m. IfNone m (filter (passes (Due session)) new.ledger.pending ≡ []))
none_sent session old new (Ok (Some m)) is same = tt
none_sent session old new (Ok None) is same = ap (λ (f : Forwarding). filter (passes (Due session)) f.ledger.pending) same ∙ none_due session old.ledger is
none_sent session old new (Err e) is same = tt

pub returns-clause-none_sent : goal.returns-clause-none_sent
returns-clause-none_sent c = none_sent c.args.session c.self.inside.forwards c.collect.new.self c.collect.result c.collect.ensures.message c.collect.ensures.none
