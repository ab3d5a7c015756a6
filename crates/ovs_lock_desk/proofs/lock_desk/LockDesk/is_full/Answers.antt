use Rattle.std.proofs.Common.{◌≡◌, ◌∙◌, ◌<◌, Bool, length, ap, sym, subst, arith, rules}
use Rattle.std.specs.Prelude.{not, nat_lt}
use Rattle.std.proofs.lemmas.Bool.{lt-ltb}
use Rattle.ovs_locks.specs.ByName.{Ascends, gathered}
use Rattle.ovs_lock_desk.specs.LockDesk.{AreNamed, relay_lock_at, locks_of}
use Rattle.ovs_lock_desk.proofs.Names.{stood, stood_tell, stood_few}
use Rattle.ovs_lock_desk.proofs.lock_desk.LockDesk.is_full.Goals as goal

pub returns-then-count-lt-MOST_LOCKS : goal.returns-then-count-lt-MOST_LOCKS
returns-then-count-lt-MOST_LOCKS c =
    let session = c.args.session in
    let locks = c.args.self.now.locks in
    let same : c.self.inside.table ≡ locks = ap (λ d. d.locks) c.self.view_is in
    let few = stood_few session locks c.self.inside.sessions (subst Ascends same c.self.invariant.0.ascend) c.count.ensures.ascend (subst (λ ls. AreNamed ls c.self.inside.sessions) same c.self.invariant.1) in
    let less : length (locks_of session locks) < 1024 = omega (arith, few, c.count.ensures.value, c.if-count-lt-MOST_LOCKS.true) in
    record { value = ap not (sym (lt-ltb (length (locks_of session locks)) 1024 less)) }

pub returns-in_default : goal.returns-in_default
returns-in_default c =
    let session = c.args.session in
    let locks = c.args.self.now.locks in
    let same : c.self.inside.table ≡ locks = ap (λ d. d.locks) c.self.view_is in
    record { value = ap (λ es. not (nat_lt (length es) 1024)) (ap (gathered (λ name (b : Bool). stood session name (relay_lock_at name locks))) c.in_default.ensures.value ∙ stood_tell session locks c.self.inside.sessions (subst Ascends same c.self.invariant.0.ascend) c.names.ensures.ascend (subst (λ ls. AreNamed ls c.self.inside.sessions) same c.self.invariant.1)) }

pub loop-name-init : goal.loop-name-init
loop-name-init c =
    let session = c.args.session in
    let locks = c.args.self.now.locks in
    let same : c.self.inside.table ≡ locks = ap (λ d. d.locks) c.self.view_is in
    let iter : c.into_iter-name-iterator.result ≡ c.in-Some.names.now.entries = search rules in
    let all = ap length (ap (gathered (λ name (b : Bool). stood session name (relay_lock_at name locks))) (iter ∙ c.in-Some.ensures.value) ∙ stood_tell session locks c.self.inside.sessions (subst Ascends same c.self.invariant.0.ascend) c.names.ensures.ascend (subst (λ ls. AreNamed ls c.self.inside.sessions) same c.self.invariant.1)) in
    (omega (arith, all), omega arith)
