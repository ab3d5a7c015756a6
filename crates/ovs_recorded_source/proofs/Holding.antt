-- What a source's desk does, as a step of one whose replies wait.
use Rattle.std.proofs.Common.{◌≡◌, ℕ, [], ◌∷◌, ◌++◌, true, Option, Some, None, Result, Ok, Err, refl, subst}
use Rattle.std.specs.Prelude.{◌≢◌, IfOk}
use Rattle.serde_json.specs.Data.{Data}
use Rattle.ovs_authority.specs.Answers.{reply_of}
use Rattle.ovs_authority.specs.Owing.{CollectsTo}
use Rattle.ovs_authority.specs.declared.response.Response.{Response}
use Rattle.ovs_authority.specs.declared.ask.Ask.{Ask}
use Rattle.ovs_authority.specs.declared.ask.Verb.{Verb}
use Rattle.ovs_authority.specs.declared.ask.Verb.TheVariants as verbs
use Rattle.ovs_links.specs.Store.{head_of}
use Rattle.ovs_source.specs.Renewing.{RenewsTo}
use Rattle.ovs_locks.specs.LockTable.{KeepsSessions}
use Rattle.ovs_source.specs.Replying.{RepliesTo, KeepsSource}
use Rattle.ovs_source.specs.SourceDesk.{SourceDeskValue, owing_of}
use Rattle.ovs_wire.specs.declared.message.Message.{Message}
use Rattle.ovs_recorded_source.specs.Steps.{SourceState, IsTransaction, Waits, Asks, Gives, Begins, Collects, immediate_reply_of, link_behind, first_link}
use Rattle.ovs_recorded_source.specs.Waiting.{Waiting, Become, TakesFirst, message_of, replies_at}
use Rattle.ovs_recorded_source.specs.declared.waiting.WaitingReply.{WaitingReply}
use Rattle.ovs_recorded_source.proofs.Making.{asking_makes, renewing_makes}

-- ---- requests

pub waits_behind : (session : ℕ) (id : Data) (verb : Verb) (a : Response) (d e : SourceState) → IsTransaction verb
    → Become d.waiting session (replies_at session d.waiting ++ record { answer = a; id = id; standing = head_of e.desk.source } ∷ []) e.waiting → Waits session id verb a d e
waits_behind session id (verbs.Transact operations) a d e is b = b
waits_behind session id (verbs.Lock name) a d e is b = absurd is
waits_behind session id (verbs.Steal name) a d e is b = absurd is
waits_behind session id (verbs.Unlock name) a d e is b = absurd is

pub none_waits_for : (session : ℕ) (id : Data) (verb : Verb) (a : Response) (d e : SourceState) → (IsTransaction verb → ⊥) → e.waiting ≡ d.waiting → Waits session id verb a d e
none_waits_for session id (verbs.Transact operations) a d e none same = absurd (none tt)
none_waits_for session id (verbs.Lock name) a d e none same = same
none_waits_for session id (verbs.Steal name) a d e none same = same
none_waits_for session id (verbs.Unlock name) a d e none same = same

pub given_later : (verb : Verb) (m : Message) → IsTransaction verb → None ≡ immediate_reply_of verb m
given_later (verbs.Transact operations) m is = refl
given_later (verbs.Lock name) m is = absurd is
given_later (verbs.Steal name) m is = absurd is
given_later (verbs.Unlock name) m is = absurd is

pub given_now : (verb : Verb) (m : Message) → (IsTransaction verb → ⊥) → Some m ≡ immediate_reply_of verb m
given_now (verbs.Transact operations) m none = absurd (none tt)
given_now (verbs.Lock name) m none = refl
given_now (verbs.Steal name) m none = refl
given_now (verbs.Unlock name) m none = refl

pub asked : (session : ℕ) (ask : Ask) (a : Response) (d e : SourceState) → RepliesTo d.desk session ask.verb a e.desk → Waits session ask.id ask.verb a d e
    → Asks session ask d (reply_of a ask.id) (link_behind d.desk.unpublished e.desk.unpublished) e
asked session ask a d e replies waits = record {
  answer = a;
  reply_is = refl;
  replies = replies;
  made = asking_makes d.desk session ask.verb a e.desk replies;
  waits = waits;
}

-- the reply that is put has the request's id, and the head of the chain
pub put_so : (session : ℕ) (old with_room new : Waiting) (a : Response) (id own : Data) (standing head : ℕ) → with_room ≡ old → id ≡ own → standing ≡ head
    → Become with_room session (replies_at session with_room ++ record { answer = a; id = id; standing = standing } ∷ []) new
    → Become old session (replies_at session old ++ record { answer = a; id = own; standing = head } ∷ []) new
put_so session old with_room new a id own standing head same id_is standing_is b =
    subst (λ (n : ℕ). Become old session (replies_at session old ++ record { answer = a; id = own; standing = n } ∷ []) new) standing_is
    (subst (λ (x : Data). Become old session (replies_at session old ++ record { answer = a; id = x; standing = standing } ∷ []) new) id_is
    (subst (λ (w : Waiting). Become w session (replies_at session w ++ record { answer = a; id = id; standing = standing } ∷ []) new) same b))

-- ---- replies that wait

pub gives : (session : ℕ) (first : WaitingReply) (d e : SourceState) → TakesFirst session d.waiting (Some first) e.waiting → e.desk ≡ d.desk → Gives session d (message_of first) e
gives session first d e takes desk = record { first = first; rest = takes.0; at = takes.1; left = takes.2; is = refl; desk = desk }

pub gives_none : (session : ℕ) (d e : SourceState) → TakesFirst session d.waiting None e.waiting → e.desk ≡ d.desk → (replies_at session d.waiting ≡ []) × (e ≡ d)
gives_none session d e takes desk = (takes.0, λ i. record { desk = desk i; waiting = takes.1 i })

pub collected : {E : Type 0} (session : ℕ) (d : SourceState) (left : SourceDeskValue) (r : Result (Option Message) E) → replies_at session d.waiting ≡ []
    → IfOk r (λ m. CollectsTo (owing_of d.desk.locks session) m (owing_of left.locks session))
    → ((other : ℕ) → other ≢ session → owing_of left.locks other ≡ owing_of d.desk.locks other) → KeepsSessions d.desk.locks left.locks → KeepsSource d.desk left
    → IfOk r (λ m. Collects session d m (record { desk = left; waiting = d.waiting }))
collected session d left (Ok m) none given others sessions source = record { none = none; given = given; others = others; sessions = sessions; source = source; waiting = refl }
collected session d left (Err e) none given others sessions source = tt

-- ---- epochs

pub begins : (d e : SourceState) → RenewsTo d.desk (Ok true) e.desk → e.waiting ≡ d.waiting → Begins d (first_link d.desk) e
begins d e renews same = record { renews = renews; made = renewing_makes d.desk.renewal d.desk.next d.desk e.desk renews.1; waiting = same }
