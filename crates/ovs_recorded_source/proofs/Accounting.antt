-- What holds of every list of steps of a source's desk.
use Rattle.std.proofs.Common.{◌≡◌, ◌∙◌, ℕ, List, [], ◌∷◌, ◌++◌, Bool, true, false, cond, Option, Some, None, refl, sym, ap, subst, map, append_assoc, append-nil, ⊎_elim, eqb-true}
use Rattle.std.proofs.lemmas.Bool.{eqb-false}
use Rattle.std.specs.Prelude.{◌≢◌, ◌==◌, ⊤, option_to_list}
use Rattle.std.specs.List.{AllByRecursion, flat_map}
use Rattle.std.proofs.lemmas.List.{map-append}
use Rattle.serde_json.specs.Data.{Data}
use Rattle.ovs_authority.specs.Answers.{reply_of}
use Rattle.ovs_authority.specs.Owing.{Owing, CollectsTo}
use Rattle.ovs_authority.specs.declared.response.Response.{Response}
use Rattle.ovs_authority.specs.declared.ask.Verb.{Verb}
use Rattle.ovs_authority.specs.declared.ask.Verb.TheVariants as verbs
use Rattle.ovs_links.specs.Store.{head_of}
use Rattle.ovs_links.specs.declared.link.Link.{Link}
use Rattle.ovs_source.specs.Replying.{KeepsSource}
use Rattle.ovs_source.specs.SourceDesk.{SourceDeskValue, TakesLink, owing_of}
use Rattle.ovs_wire.specs.declared.message.Message.{Message}
use Rattle.ovs_wire.specs.declared.message.Message.TheVariants.{Request, Reply, Notice}
use Rattle.ovs_recorded_source.specs.Accounts.{IsSaid, IsNotice, IsOver, IsAccounted, GoesOn, if_transaction, made_for, given_to, link_taken, link_made}
use Rattle.ovs_recorded_source.specs.Steps.{SourceState, Gives, Waits, Does, DoesAll, begun}
use Rattle.ovs_recorded_source.specs.Waiting.{message_of, replies_at}
use Rattle.ovs_recorded_source.specs.declared.step.SourceStep.{SourceStep}
use Rattle.ovs_recorded_source.specs.declared.step.SourceStep.TheVariants as steps
use Rattle.ovs_recorded_source.specs.declared.waiting.WaitingReply.{WaitingReply}

-- ---- what is said

notice_given : (old new : Owing) (m : Option Message) → old.known ≡ [] → CollectsTo old m new → IsNotice m
notice_given old new None none is = tt
notice_given old new (Some (Notice method params)) none is = tt
notice_given old new (Some (Reply result error id)) none is = (let clash = sym none ∙ is.0 in absurd cc)
notice_given old new (Some (Request method params id)) none is = absurd is

said : (s : SourceStep) (d e : SourceState) → Does s d e → IsSaid s
said (steps.Asked session ask reply link) d e does = record { answer = does.answer; is = does.reply_is }
said (steps.Given session reply) d e does = tt
said (steps.Collected session notice) d e does = notice_given (owing_of d.desk.locks session) (owing_of e.desk.locks session) notice refl does.given
said (steps.Ended session) d e does = tt
said (steps.TookLink link) d e does = tt
said (steps.BeganEpoch link) d e does = tt

all_said : (d : SourceState) (made : List SourceStep) (e : SourceState) → DoesAll d made e → AllByRecursion IsSaid made
all_said d [] e all = tt
all_said d (s ∷ later) e all = (said s d all.0 all.1, all_said all.0 later e all.2)

-- the steps in two parts
parted : (d : SourceState) (made later : List SourceStep) (e : SourceState) → DoesAll d (made ++ later) e → (m : SourceState) × DoesAll d made m × DoesAll m later e
parted d [] later e all = (d, refl, all)
parted d (s ∷ made) later e all = (let rest = parted all.0 made later e all.2 in (rest.0, (all.0, all.1, rest.1), rest.2))

-- ---- what goes through each step goes through all

-- what was there, and what came with each step, is what went with each step, and what is there
module _ {X : Type 0} (here : SourceState → List X) (came went : SourceStep → List X) (P : SourceStep → Type 0)
    (one : (s : SourceStep) (d e : SourceState) → P s → Does s d e → here d ++ came s ≡ went s ++ here e) where
  through : (d : SourceState) (made : List SourceStep) (e : SourceState) → AllByRecursion P made → DoesAll d made e
      → here d ++ flat_map came made ≡ flat_map went made ++ here e
  through d [] e each all = append-nil (here d) ∙ sym (ap here all)
  through d (s ∷ later) e each all =
      sym (append_assoc (here d) (came s) (flat_map came later))
      ∙ ap (λ (xs : List X). xs ++ flat_map came later) (one s d all.0 each.0 all.1)
      ∙ append_assoc (went s) (here all.0) (flat_map came later)
      ∙ ap (λ (xs : List X). went s ++ xs) (through all.0 later e each.1 all.2)
      ∙ sym (append_assoc (went s) (flat_map went later) (here e))

-- ---- the replies to transactions

module _ (session : ℕ) where
  abbrev messages : SourceState → List Message
  messages d = map message_of (replies_at session d.waiting)

  none_came : (d e : SourceState) → replies_at session e.waiting ≡ replies_at session d.waiting → messages d ++ [] ≡ messages e
  none_came d e same = append-nil (messages d) ∙ sym (ap (map message_of) same)

  apart : (other : ℕ) → (other == session) ≡ false → session ≢ other
  apart other not same = eqb-false other session not (sym same)

  asked_at : (asker : ℕ) (b : Bool) → (asker == session) ≡ b → (verb : Verb) (id : Data) (a : Response) (reply : Message) (d e : SourceState) → reply ≡ reply_of a id → Waits asker id verb a d e
      → messages d ++ cond b (if_transaction verb reply) [] ≡ messages e
  asked_at asker true at (verbs.Transact operations) id a reply d e is waits =
      let same : asker ≡ session = eqb-true asker session at in
      let r : WaitingReply = record { answer = a; id = id; standing = head_of e.desk.source } in
      let put : replies_at session e.waiting ≡ replies_at session d.waiting ++ r ∷ [] = subst (λ (n : ℕ). replies_at n e.waiting ≡ replies_at n d.waiting ++ r ∷ []) same waits.at in
      ap (λ (m : Message). messages d ++ m ∷ []) is
      ∙ sym (ap (map message_of) put ∙ map-append message_of (replies_at session d.waiting) (r ∷ []))
  asked_at asker false at (verbs.Transact operations) id a reply d e is waits = none_came d e (waits.others session (apart asker at))
  asked_at asker true at (verbs.Lock name) id a reply d e is waits = none_came d e (ap (replies_at session) waits)
  asked_at asker false at (verbs.Lock name) id a reply d e is waits = none_came d e (ap (replies_at session) waits)
  asked_at asker true at (verbs.Steal name) id a reply d e is waits = none_came d e (ap (replies_at session) waits)
  asked_at asker false at (verbs.Steal name) id a reply d e is waits = none_came d e (ap (replies_at session) waits)
  asked_at asker true at (verbs.Unlock name) id a reply d e is waits = none_came d e (ap (replies_at session) waits)
  asked_at asker false at (verbs.Unlock name) id a reply d e is waits = none_came d e (ap (replies_at session) waits)

  given_at : (other : ℕ) (b : Bool) → (other == session) ≡ b → (reply : Message) (d e : SourceState) → Gives other d reply e
      → messages d ++ [] ≡ cond b (reply ∷ []) [] ++ messages e
  given_at other true at reply d e gives =
      let same : other ≡ session = eqb-true other session at in
      let before : replies_at session d.waiting ≡ gives.first ∷ gives.rest = subst (λ (n : ℕ). replies_at n d.waiting ≡ gives.first ∷ gives.rest) same gives.at in
      let after : replies_at session e.waiting ≡ gives.rest = subst (λ (n : ℕ). replies_at n e.waiting ≡ gives.rest) same gives.left.at in
      append-nil (messages d)
      ∙ ap (map message_of) before
      ∙ ap (λ (m : Message). m ∷ map message_of gives.rest) (sym gives.is)
      ∙ ap (λ (rs : List WaitingReply). reply ∷ map message_of rs) (sym after)
  given_at other false at reply d e gives = none_came d e (gives.left.others session (apart other at))

  replied_step : (s : SourceStep) (d e : SourceState) → GoesOn session s → Does s d e → messages d ++ made_for session s ≡ given_to session s ++ messages e
  replied_step (steps.Asked asker ask reply link) d e on does = asked_at asker (asker == session) refl ask.verb ask.id does.answer reply d e does.reply_is does.waits
  replied_step (steps.Given other reply) d e on does = given_at other (other == session) refl reply d e does
  replied_step (steps.Collected other notice) d e on does = none_came d e (ap (replies_at session) does.waiting)
  replied_step (steps.Ended other) d e on does = none_came d e (does.none.others session (λ same. on (sym same)))
  replied_step (steps.TookLink link) d e on does = none_came d e (ap (replies_at session) does.waiting)
  replied_step (steps.BeganEpoch link) d e on does = none_came d e (ap (replies_at session) does.waiting)

  -- none waits where no step was made, or the session has just ended
  none_waits : (d : SourceState) (made : List SourceStep) (e : SourceState) → replies_at session d.waiting ≡ [] → IsOver session made → DoesAll d made e → replies_at session e.waiting ≡ []
  none_waits d made e none over all = ⊎_elim
      (λ (is : made ≡ []). ap (λ (x : SourceState). replies_at session x.waiting) (subst (λ (ss : List SourceStep). DoesAll d ss e) is all) ∙ none)
      (λ (is : (earlier : List SourceStep) × (made ≡ earlier ++ steps.Ended session ∷ [])).
      let parts = parted d is.0 (steps.Ended session ∷ []) e (subst (λ (ss : List SourceStep). DoesAll d ss e) is.1 all) in
      ap (λ (x : SourceState). replies_at session x.waiting) parts.2.2 ∙ parts.2.1.none.at)
      over

-- ---- links

same_made : (d e : SourceState) → e.desk.unpublished ≡ d.desk.unpublished → d.desk.unpublished ++ [] ≡ e.desk.unpublished
same_made d e same = append-nil d.desk.unpublished ∙ sym same

source_kept : (d e : SourceDeskValue) → KeepsSource d e → e.unpublished ≡ d.unpublished
source_kept d e keeps = ap (λ (x : SourceDeskValue). x.unpublished) keeps

taken_step : (link : Option Link) (d e : SourceDeskValue) → TakesLink d link e → d.unpublished ++ [] ≡ option_to_list link ++ e.unpublished
taken_step None d e takes = append-nil d.unpublished ∙ sym (ap (λ (x : SourceDeskValue). x.unpublished) takes.1)
taken_step (Some l) d e takes = append-nil d.unpublished ∙ takes.0

linked_step : (s : SourceStep) (d e : SourceState) → ⊤ → Does s d e → d.desk.unpublished ++ link_made s ≡ link_taken s ++ e.desk.unpublished
linked_step (steps.Asked session ask reply link) d e on does = sym does.made
linked_step (steps.Given session reply) d e on does = same_made d e (ap (λ (x : SourceDeskValue). x.unpublished) does.desk)
linked_step (steps.Collected session notice) d e on does = same_made d e (source_kept d.desk e.desk does.source)
linked_step (steps.Ended session) d e on does = same_made d e (source_kept d.desk e.desk does.source)
linked_step (steps.TookLink link) d e on does = taken_step link d.desk e.desk does.taken
linked_step (steps.BeganEpoch link) d e on does = sym does.made

each : (made : List SourceStep) → AllByRecursion (λ (s : SourceStep). ⊤) made
each [] = tt
each (s ∷ later) = (tt, each later)

-- ---- all

pub accounted : (start : SourceDeskValue) (made : List SourceStep) (left : SourceState) → DoesAll (begun start) made left → IsAccounted start made left
accounted start made left all = record {
  said = all_said (begun start) made left all;
  given = λ session since s.
      let parts = parted (begun start) s.before since left (subst (λ (ss : List SourceStep). DoesAll (begun start) ss left) s.all all) in
      let none = none_waits session (begun start) s.before parts.0 refl s.over parts.1 in
      ap (λ (rs : List WaitingReply). map message_of rs ++ flat_map (made_for session) since) (sym none)
      ∙ through (messages session) (made_for session) (given_to session) (GoesOn session) (replied_step session) parts.0 since left s.none parts.2;
  taken = through (λ (d : SourceState). d.desk.unpublished) link_made link_taken (λ (s : SourceStep). ⊤) linked_step (begun start) made left (each made) all;
}
