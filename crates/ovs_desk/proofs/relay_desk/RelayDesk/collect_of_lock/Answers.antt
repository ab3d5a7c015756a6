use Rattle.std.proofs.Common.{◌≡◌, ◌∙◌, sym, ap, subst, ℕ, List, [], Option, Result, Ok, Err}
use Rattle.std.specs.Prelude.{◌≢◌, slice_get, IfOk, IfNone, OnErr, filter}
use Rattle.ovs_json.specs.declared.no_memory.NoMemory.{NoMemory}
use Rattle.ovs_wire.specs.declared.message.Message.{Message}
use Rattle.ovs_authority.specs.Owing.{CollectsTo}
use Rattle.ovs_lock_desk.specs.LockDesk.{IsDeskTable, answers_to}
use Rattle.ovs_lock_desk.specs.declared.pending_steal.PendingSteal.{PendingSteal}
use Rattle.ovs_desk.specs.declared.forwarded.RequestFilter.TheVariants.{Due}
use Rattle.ovs_desk.specs.Ledger.{passes}
use Rattle.ovs_desk.specs.RelayDesk.{RelayValue, owing_of, owner_of}
use Rattle.ovs_desk.specs.Relaying.{CollectsNotice, CollectsOfLock}
use Rattle.ovs_desk.proofs.Collected.{late_given, late_others, late_owners, late_first, none_late, notice_given, notice_others, notice_owners}
use Rattle.ovs_desk.proofs.relay_desk.RelayDesk.collect_of_lock.Goals as goal

module _ (session : ℕ) (d mid e : RelayValue) (same : mid ≡ d) where
  noticed : (r : Result (Option Message) NoMemory) → filter (passes (Due session)) d.forwards.ledger.pending ≡ [] → answers_to session d.locks.locks ≡ []
      → IsDeskTable d.locks.locks → IfOk r (λ m. CollectsNotice session mid m e) → IfOk r (λ m. CollectsTo (owing_of d session) m (owing_of e session))
  noticed (Ok m) none no_late table k = notice_given session d e m table (subst (λ (x : RelayValue). CollectsNotice session x m e) same k) none no_late
  noticed (Err x) none no_late table k = tt

  noticed_others : (r : Result (Option Message) NoMemory) → IfOk r (λ m. CollectsNotice session mid m e) → OnErr r (e ≡ mid)
      → (other : ℕ) → other ≢ session → owing_of e other ≡ owing_of d other
  noticed_others (Ok m) k un other apart = notice_others session d e m (subst (λ (x : RelayValue). CollectsNotice session x m e) same k) other apart
  noticed_others (Err x) k un other apart = ap (λ (x : RelayValue). owing_of x other) (un ∙ same)

  noticed_owners : (r : Result (Option Message) NoMemory) → IsDeskTable d.locks.locks → IfOk r (λ m. CollectsNotice session mid m e) → OnErr r (e ≡ mid) → (name : List ℕ) → owner_of e name ≡ owner_of d name
  noticed_owners (Ok m) table k un name = notice_owners session d e table m (subst (λ (x : RelayValue). CollectsNotice session x m e) same k) name
  noticed_owners (Err x) table k un name = ap (λ (x : RelayValue). owner_of x name) (un ∙ same)

  noticed_by : (r : Result (Option Message) NoMemory) → answers_to session d.locks.locks ≡ [] → IfOk r (λ m. CollectsNotice session mid m e) → IfOk r (λ m. CollectsOfLock (slice_get (answers_to session d.locks.locks) 0) session d m e)
  noticed_by (Ok m) none k =
      subst (λ (o : Option (List ℕ × PendingSteal)). CollectsOfLock o session d m e) (sym (ap (λ (xs : List (List ℕ × PendingSteal)). slice_get xs 0) none)) (subst (λ (x : RelayValue). CollectsNotice session x m e) same k)
  noticed_by (Err x) none k = tt

pub returns-in-Some-clause-given : goal.returns-in-Some-clause-given
returns-in-Some-clause-given c =
    late_given c.args.session c.args.self.now c.collect_late.new.self c.in_ok-message.field-0 c.in_ok-message.ensures.table c.in_ok-message.ensures.given c.in-Some.message c.in-Some.is c.requires.none_sent

pub returns-in-Some-clause-others : goal.returns-in-Some-clause-others
returns-in-Some-clause-others c =
    late_others c.args.session c.args.self.now c.collect_late.new.self c.in_ok-message.field-0 c.in_ok-message.ensures.table c.in_ok-message.ensures.given

pub returns-in-None-clause-given : goal.returns-in-None-clause-given
returns-in-None-clause-given c =
    let d = c.args.self.now in
    let mid = c.collect_late.new.self in
    let same : mid ≡ d = subst (λ (o : Option Message). IfNone o (mid ≡ d)) c.in-None.is c.in_ok-message.ensures.none in
    let no_late = none_late c.args.session d mid c.in_ok-message.field-0 c.in_ok-message.ensures.table c.in_ok-message.ensures.given c.in-None.is in
    noticed c.args.session d mid c.collect_notice.new.self same c.collect_notice.result c.requires.none_sent no_late c.in_ok-message.ensures.table c.collect_notice.ensures.given

pub returns-in-None-clause-others : goal.returns-in-None-clause-others
returns-in-None-clause-others c =
    let d = c.args.self.now in
    let mid = c.collect_late.new.self in
    let same : mid ≡ d = subst (λ (o : Option Message). IfNone o (mid ≡ d)) c.in-None.is c.in_ok-message.ensures.none in
    noticed_others c.args.session d mid c.collect_notice.new.self same c.collect_notice.result c.collect_notice.ensures.given c.collect_notice.ensures.unchanged

pub returns-in-Some-clause-owners : goal.returns-in-Some-clause-owners
returns-in-Some-clause-owners c =
    late_owners c.args.session c.args.self.now c.collect_late.new.self c.in_ok-message.ensures.table c.in_ok-message.field-0 c.in_ok-message.ensures.given

pub returns-in-Some-clause-does : goal.returns-in-Some-clause-does
returns-in-Some-clause-does c =
    late_first c.args.session c.args.self.now c.collect_late.new.self c.in_ok-message.field-0 c.in-Some.message c.in-Some.is c.in_ok-message.ensures.given

pub returns-in-None-clause-owners : goal.returns-in-None-clause-owners
returns-in-None-clause-owners c =
    let d = c.args.self.now in
    let mid = c.collect_late.new.self in
    let same : mid ≡ d = subst (λ (o : Option Message). IfNone o (mid ≡ d)) c.in-None.is c.in_ok-message.ensures.none in
    noticed_owners c.args.session d mid c.collect_notice.new.self same c.collect_notice.result c.in_ok-message.ensures.table c.collect_notice.ensures.given c.collect_notice.ensures.unchanged

pub returns-in-None-clause-does : goal.returns-in-None-clause-does
returns-in-None-clause-does c =
    let d = c.args.self.now in
    let mid = c.collect_late.new.self in
    let same : mid ≡ d = subst (λ (o : Option Message). IfNone o (mid ≡ d)) c.in-None.is c.in_ok-message.ensures.none in
    let no_late = none_late c.args.session d mid c.in_ok-message.field-0 c.in_ok-message.ensures.table c.in_ok-message.ensures.given c.in-None.is in
    noticed_by c.args.session d mid c.collect_notice.new.self same c.collect_notice.result no_late c.collect_notice.ensures.given
