-- The links that a session sent are the first of those that are derived from what it reads.
use Rattle.std.proofs.Common.{◌≡◌, ℕ, List, [], ◌∷◌, ◌++◌, Bool, true, false, inl, inr, Option, Some, None, Ok, map, refl, sym, ◌∙◌, ap, subst, append_assoc, append-nil}
use Rattle.std.specs.Prelude.{IfSome}
use Rattle.std.specs.Io.KnownBytes.{IsAtEnd}
use Rattle.ovs_links.specs.declared.link.Link.{Link}
use Rattle.ovs_wire.specs.Frames.{Ending, Rest, Fault, AreFrames}
use Rattle.ovs_wire.specs.declared.message.Message.{Message}
use Rattle.ovs_wire.proofs.Cuts.{cut, fault_on}
use Rattle.ovs_wire.proofs.Exists.{each}
use Rattle.ovs_wire.proofs.Spelling.{one_message}
use Rattle.ovs_wire.proofs.Unique.{once}
use Rattle.ovs_session.specs.declared.counts.Counts.{Counts}
use Rattle.ovs_session.specs.declared.ended.Ended.{Ended}
use Rattle.ovs_session.specs.declared.ended.Ended.TheVariants.{Closed}
use Rattle.ovs_session.specs.Moving.{Moved}
use Rattle.ovs_session.specs.Serving.{SessionValue, Said, Answered, Told, Runs, IsDone, messages, holding, fresh_within}
use Rattle.ovs_session.proofs.Whole.{answers_from_new, answers_all}
use Rattle.ovs_upstream.specs.Hearing.{hears, links_in, links_after, at_stage, derived, derived_of}
use Rattle.ovs_upstream.specs.Talk.{talk_of}
use Rattle.ovs_upstream.specs.declared.up_event.UpEvent.{UpEvent}
use Rattle.ovs_upstream.specs.declared.up_event.UpEvent.TheVariants.{Links, Send, ReplyFor, Locked, Stolen, Nothing}
use Rattle.ovs_upstream.specs.declared.up_session.Heard.{Heard}
use Rattle.ovs_upstream.specs.declared.up_session.SyncState.{SyncState}
use Rattle.ovs_upstream.specs.declared.up_session.SyncState.TheVariants.{Opening, Asking, At}
use Rattle.ovs_upstream.specs.declared.up_session.SyncState.TheVariants as stages
use Rattle.ovs_upstream.specs.declared.up_session.UpSession.{UpSession}
use Rattle.ovs_desk.specs.declared.source_message.SourceMessage.{SourceMessage}
use Rattle.ovs_follow.specs.UpstreamState.{UpstreamStateValue, Hears, Asks, AsksBy, Passes, begins_at, found, handed}
use Rattle.ovs_follow.specs.Deriving.{AreRead, AreDerived, IsFirst, SendsFirst, SendsAll}
use Rattle.ovs_follow.specs.Telling.{TellsFirst, derived_calls, told, told_after}
use Rattle.ovs_follow.specs.declared.handler_call.HandlerCall.{HandlerCall}
use Rattle.ovs_follow.specs.declared.handler_call.HandlerCall.TheVariants as calls
use Rattle.ovs_follow.specs.declared.input_fault.InputFault.{InputFault}
use Rattle.ovs_follow.specs.UpstreamEnd.{HasFollowed}
use Rattle.ovs_follow.proofs.Decided.{says_or_none}

-- ---- each stream has derived links, and no others

read_each : (ts : List (List ℕ)) → (ms : List Message) × AreRead ts ms
read_each [] = ([], refl)
read_each (t ∷ ts) = elim (says_or_none t) [
  | inl says ↦ (let more = read_each ts in (says.0 ∷ more.0, (says.1, more.1)))
  | inr none ↦ ([], none)
]

pub links_exist : (most : ℕ) (up : UpSession) (stream : List ℕ) → (links : List Link) × AreDerived most up stream links
links_exist most up stream =
    let found : (texts : List (List ℕ)) × (ending : Ending) × AreFrames most stream texts ending = each stream in
    let read = read_each found.0 in
    (derived up read.0, record { texts = found.0; ending = found.1; frames = found.2; messages = read.0; read = read.1; are = refl })

read_once : (ts : List (List ℕ)) (ms ns : List Message) → AreRead ts ms → AreRead ts ns → ms ≡ ns
read_once [] ms ns read other = read ∙ sym other
read_once (t ∷ ts) [] [] read other = refl
read_once (t ∷ ts) [] (n ∷ ns) read other = absurd (read n other.0)
read_once (t ∷ ts) (m ∷ ms) [] read other = absurd (other m read.0)
read_once (t ∷ ts) (m ∷ ms) (n ∷ ns) read other = λ i. one_message t m n read.0 other.0 i ∷ read_once ts ms ns read.1 other.1 i

pub links_once : {most : ℕ} (up : UpSession) (stream : List ℕ) (links others : List Link) → AreDerived most up stream links → AreDerived most up stream others
    → links ≡ others
links_once up stream links others d e =
    let texts : e.texts ≡ d.texts = (once stream e.texts d.texts e.ending d.ending e.frames d.frames).0 in
    let same : d.messages ≡ e.messages = read_once d.texts d.messages e.messages d.read (subst (λ (ts : List (List ℕ)). AreRead ts e.messages) texts e.read) in
    d.are ∙ ap (derived up) same ∙ sym e.are

-- ---- frames

-- the frames of the front of a stream come first
pub first_texts : {most : ℕ} (x later : List ℕ) (first texts : List (List ℕ)) (ends ending : Ending) → AreFrames most x first ends → AreFrames most (x ++ later) texts ending
    → (others : List (List ℕ)) × (texts ≡ first ++ others)
first_texts x later first texts (Fault f) ending frames all =
    ([], (once (x ++ later) texts first ending (Fault f) all (fault_on x later first f frames)).0 ∙ sym (append-nil first))
first_texts x later first texts (Rest left) ending frames all =
    let more = each (left ++ later) in
    (more.0, (once (x ++ later) texts (first ++ more.0) ending more.1 all (cut x later first more.0 left more.1 frames more.2)).0)

split_off : (bytes bytes_read framed unfed left : List ℕ) → bytes ≡ bytes_read ++ left → bytes_read ≡ framed ++ unfed → bytes ≡ framed ++ (unfed ++ left)
split_off bytes bytes_read framed unfed left reads stream = reads ∙ ap (λ l. l ++ left) stream ∙ append_assoc framed unfed left

regrouped : (ts said held waiting others : List (List ℕ)) → ts ≡ ((said ++ held) ++ waiting) ++ others → ts ≡ said ++ (held ++ (waiting ++ others))
regrouped ts said held waiting others e = e ∙ append_assoc (said ++ held) waiting others ∙ append_assoc said held (waiting ++ others)

-- ---- what was said

told_more : (xs ys : List HandlerCall) → told (xs ++ ys) ≡ told xs ++ told ys
told_more [] ys = refl
told_more (calls.TookUp m ∷ more) ys = told_more more ys
told_more (calls.Heard m ∷ more) ys = ap (λ l. calls.Heard m ∷ l) (told_more more ys)
told_more (calls.Found from ∷ more) ys = ap (λ l. calls.Found from ∷ l) (told_more more ys)

told_ups : (ups : List (Option Message)) → told (map calls.TookUp ups) ≡ []
told_ups [] = refl
told_ups (u ∷ ups) = told_ups ups

told_handed : (stage : SyncState) (event : UpEvent) → told (handed stage event) ≡ handed stage event
told_handed stage (ReplyFor number a) = refl
told_handed stage (Locked name) = refl
told_handed stage (Stolen name) = refl
told_handed stage (Send m) = refl
told_handed stage (Links ls) = refl
told_handed stage Nothing = refl

told_found : (before after : SyncState) (from : ℕ) → told (found before after from) ≡ found before after from
told_found Asking (At id) from = refl
told_found Asking Opening from = refl
told_found Asking Asking from = refl
told_found Asking stages.Ended from = refl
told_found Opening after from = refl
told_found (At id) after from = refl
told_found stages.Ended after from = refl

-- what it is told of one message
abbrev tells : UpSession → Heard → List HandlerCall
tells up h = handed up.stage h.event ++ found up.stage h.stage (begins_at h)

told_tells : (up : UpSession) (h : Heard) → told (tells up h) ≡ tells up h
told_tells up h =
    told_more (handed up.stage h.event) (found up.stage h.stage (begins_at h))
    ∙ ap (λ l. l ++ told (found up.stage h.stage (begins_at h))) (told_handed up.stage h.event)
    ∙ ap (λ l. handed up.stage h.event ++ l) (told_found up.stage h.stage (begins_at h))

-- what is asked changes neither how far the session is, nor what was sent, nor what the handler was told
record Stays (old new : UpstreamStateValue) : Type 0 where
  pub up : new.up ≡ old.up
  pub sent : new.sent ≡ old.sent
  pub told : told new.made ≡ told old.made

stays_by : (old new : UpstreamStateValue) → new.up ≡ old.up → new.sent ≡ old.sent → new.made ≡ old.made → Stays old new
stays_by old new up sent made = record { up = up; sent = sent; told = ap told made }

passes_stay : (stage : SyncState) (old new : UpstreamStateValue) (said : List ℕ) → Passes stage old said new → Stays old new
passes_stay (At id) old new said passes = record {
  up = ap (λ f. f.up) passes.1;
  sent = ap (λ f. f.sent) passes.1;
  told = ap told passes.0.called
      ∙ told_more old.made (map calls.TookUp passes.0.ups)
      ∙ ap (λ l. told old.made ++ l) (told_ups passes.0.ups)
      ∙ append-nil (told old.made);
}
passes_stay Opening old new said passes = stays_by old new (ap (λ f. f.up) passes.1) (ap (λ f. f.sent) passes.1) (ap (λ f. f.made) passes.1)
passes_stay Asking old new said passes = stays_by old new (ap (λ f. f.up) passes.1) (ap (λ f. f.sent) passes.1) (ap (λ f. f.made) passes.1)
passes_stay stages.Ended old new said passes = stays_by old new (ap (λ f. f.up) passes.1) (ap (λ f. f.sent) passes.1) (ap (λ f. f.made) passes.1)

asks_stay : (begun : Bool) (old new : UpstreamStateValue) (said : List ℕ) → AsksBy begun old said new → Stays old new
asks_stay false old new said asks = stays_by old new (ap (λ f. f.up) asks.1) (ap (λ f. f.sent) asks.1) (ap (λ f. f.made) asks.1)
asks_stay true old new said asks = passes_stay old.up.stage old new said asks

-- the links that were sent while this was said come first among those derived, and what the handler was told first among what it
-- is to be told
record Sends (old new : UpstreamStateValue) (others : List (List ℕ)) (ms : List Message) : Type 0 where
  pub first : List Link
  pub first_told : List HandlerCall
  pub later : List Message
  pub read : AreRead others later
  pub sent : new.sent ≡ old.sent ++ first
  pub derives : derived old.up ms ≡ first ++ derived new.up later
  pub told : told new.made ≡ told old.made ++ first_told
  pub tells : derived_calls old.up ms ≡ first_told ++ derived_calls new.up later

sends_none : (old new : UpstreamStateValue) (others : List (List ℕ)) (ms : List Message) → Stays old new → AreRead others ms → Sends old new others ms
sends_none old new others ms stays read = record {
  first = [];
  first_told = [];
  later = ms;
  read = read;
  sent = stays.sent ∙ sym (append-nil old.sent);
  derives = ap (λ u. derived u ms) (sym stays.up);
  told = stays.told ∙ sym (append-nil (told old.made));
  tells = ap (λ u. derived_calls u ms) (sym stays.up);
}

sends_from : (old mid new : UpstreamStateValue) (others : List (List ℕ)) (ms : List Message) → Stays old mid → Sends mid new others ms → Sends old new others ms
sends_from old mid new others ms stays s = record {
  first = s.first;
  first_told = s.first_told;
  later = s.later;
  read = s.read;
  sent = s.sent ∙ ap (λ l. l ++ s.first) stays.sent;
  derives = ap (λ u. derived u ms) (sym stays.up) ∙ s.derives;
  told = s.told ∙ ap (λ l. l ++ s.first_told) stays.told;
  tells = ap (λ u. derived_calls u ms) (sym stays.up) ∙ s.tells;
}

sends_heard : (old mid new : UpstreamStateValue) (others : List (List ℕ)) (m : Message) (ms : List Message) (h : Heard) → hears old.up m ≡ Ok h
    → mid.up ≡ at_stage old.up h.stage → mid.sent ≡ old.sent ++ links_in h.event → mid.made ≡ old.made ++ tells old.up h → Sends mid new others ms
    → Sends old new others (m ∷ ms)
sends_heard old mid new others m ms h is up sent made s = record {
  first = links_in h.event ++ s.first;
  first_told = tells old.up h ++ s.first_told;
  later = s.later;
  read = s.read;
  sent = s.sent ∙ ap (λ l. l ++ s.first) sent ∙ append_assoc old.sent (links_in h.event) s.first;
  derives =
      ap (λ r. links_after r (λ stage. derived_of (at_stage old.up stage) (map talk_of ms))) is
      ∙ ap (λ u. links_in h.event ++ derived u ms) (sym up)
      ∙ ap (λ l. links_in h.event ++ l) s.derives
      ∙ sym (append_assoc (links_in h.event) s.first (derived new.up s.later));
  told =
      s.told
      ∙ ap (λ l. told l ++ s.first_told) made
      ∙ ap (λ l. l ++ s.first_told) (told_more old.made (tells old.up h))
      ∙ append_assoc (told old.made) (told (tells old.up h)) s.first_told
      ∙ ap (λ l. told old.made ++ (l ++ s.first_told)) (told_tells old.up h);
  tells =
      ap (λ r. told_after old.up r (λ stage. derived_calls (at_stage old.up stage) ms)) is
      ∙ ap (λ u. tells old.up h ++ derived_calls u ms) (sym up)
      ∙ ap (λ l. tells old.up h ++ l) s.tells
      ∙ sym (append_assoc (tells old.up h) s.first_told (derived_calls new.up s.later));
}

runs_send : (said : List Said) (old new : UpstreamStateValue) (others : List (List ℕ)) (ms : List Message) → Runs Hears Asks said old new
    → AreRead (messages said ++ others) ms → Sends old new others ms
runs_send [] old new others ms runs read = sends_none old new others ms (stays_by old new (ap (λ f. f.up) runs) (ap (λ f. f.sent) runs) (ap (λ f. f.made) runs)) read
runs_send (Told t ∷ more) old new others ms runs read =
    sends_from old runs.0 new others ms (asks_stay old.has_begun old runs.0 t runs.1) (runs_send more runs.0 new others ms runs.2 read)
runs_send (Answered text t ∷ more) old new others [] runs read = absurd (read runs.1.is_heard.message runs.1.is_heard.says)
runs_send (Answered text t ∷ more) old new others (m ∷ ms) runs read =
    let heard = runs.1.is_heard in
    let same : heard.message ≡ m = one_message text heard.message m heard.says read.0 in
    let is : hears old.up m ≡ Ok runs.1.heard = subst (λ x. hears old.up x ≡ Ok runs.1.heard) same heard.hears in
    sends_heard old runs.0 new others m ms runs.1.heard is (ap (λ f. f.up) runs.1.after) (ap (λ f. f.sent) runs.1.after) (ap (λ f. f.made) runs.1.after)
    (runs_send more runs.0 new others ms runs.2 read.1)

first_sent : (old new : UpstreamStateValue) (others : List (List ℕ)) (ms : List Message) (links : List Link) → links ≡ derived old.up ms → Sends old new others ms → IsFirst links old.sent new.sent
first_sent old new others ms links are s = (s.first, derived new.up s.later, are ∙ s.derives, s.sent)

all_sent : (old new : UpstreamStateValue) (ms : List Message) (links : List Link) → links ≡ derived old.up ms → Sends old new [] ms → new.sent ≡ old.sent ++ links
all_sent old new ms links are s =
    let none : derived new.up s.later ≡ [] = ap (λ ms. derived new.up ms) s.read in
    s.sent ∙ ap (λ l. old.sent ++ l) (sym (are ∙ s.derives ∙ ap (λ l. s.first ++ l) none ∙ append-nil s.first))

first_told_of : (old new : UpstreamStateValue) (others : List (List ℕ)) (ms : List Message) → old.made ≡ [] → Sends old new others ms
    → (later : List HandlerCall) × (derived_calls old.up ms ≡ told new.made ++ later)
first_told_of old new others ms none s =
    (derived_calls new.up s.later, s.tells ∙ ap (λ l. l ++ derived_calls new.up s.later) (sym (s.told ∙ ap (λ l. told l ++ s.first_told) none)))

-- ---- what was read

module _ (began : UpstreamStateValue) (most limit : ℕ) (bytes : List ℕ) (output written : Option (List ℕ)) (now : SessionValue UpstreamStateValue) (links : List Link) (d : AreDerived most began.up bytes links) where
  sends_texts : (said : List Said) (others : List (List ℕ)) → Runs Hears Asks said began now.state → d.texts ≡ messages said ++ others → Sends began now.state others d.messages
  sends_texts said others runs texts = runs_send said began now.state others d.messages runs (subst (λ (ts : List (List ℕ)). AreRead ts d.messages) texts d.read)

  sends_read : (unread : Option (List ℕ)) → Moved Hears Asks limit (Some bytes) unread output written (fresh_within most began) now
      → (others : List (List ℕ)) × Sends began now.state others d.messages
  sends_read None moved = absurd moved.reads
  sends_read (Some left) moved =
      let a = answers_from_new Hears Asks began moved.bytes_read moved.bytes_written now moved.served in
      let whole = split_off bytes moved.bytes_read a.framed now.unfed left moved.reads a.stream in
      let frames : AreFrames most (a.framed ++ (now.unfed ++ left)) d.texts d.ending = subst (λ (l : List ℕ). AreFrames most l d.texts d.ending) whole d.frames in
      let front = (messages a.said ++ holding now.held) ++ now.framing.waiting in
      let more = first_texts a.framed (now.unfed ++ left) front d.texts now.framing.ending d.ending a.frames frames in
      let order = regrouped d.texts (messages a.said) (holding now.held) now.framing.waiting more.0 more.1 in
      let others = holding now.held ++ (now.framing.waiting ++ more.0) in
      (others, sends_texts a.said others a.runs order)

  pub sends_first : (unread : Option (List ℕ)) → Moved Hears Asks limit (Some bytes) unread output written (fresh_within most began) now → IsFirst links began.sent now.state.sent
  sends_first unread moved = let s = sends_read unread moved in first_sent began now.state s.0 d.messages links d.are s.1

  -- of what the handler is to be told the first was told it
  pub tells_first : (unread : Option (List ℕ)) → began.made ≡ [] → Moved Hears Asks limit (Some bytes) unread output written (fresh_within most began) now
      → TellsFirst most began.up bytes now.state.made
  tells_first unread none moved =
      let s = sends_read unread moved in
      let first = first_told_of began now.state s.0 d.messages none s.1 in
      record { texts = d.texts; ending = d.ending; frames = d.frames; messages = d.messages; read = d.read; later = first.0; first = first.1 }

  pub sends_all : (unread : Option (List ℕ)) → Moved Hears Asks limit (Some bytes) unread output written (fresh_within most began) now → IsDone now → IsAtEnd unread
      → now.state.sent ≡ began.sent ++ links
  sends_all None moved done end = absurd moved.reads
  sends_all (Some left) moved done end =
      let a = answers_all Hears Asks began moved.bytes_read moved.bytes_written now moved.served done in
      let whole : bytes ≡ moved.bytes_read = moved.reads ∙ ap (λ l. moved.bytes_read ++ l) end ∙ append-nil moved.bytes_read in
      let frames : AreFrames most moved.bytes_read d.texts d.ending = subst (λ (l : List ℕ). AreFrames most l d.texts d.ending) whole d.frames in
      let texts : d.texts ≡ messages a.said = (once moved.bytes_read d.texts (messages a.said) d.ending now.framing.ending frames a.frames).0 in
      all_sent began now.state d.messages links d.are (sends_texts a.said [] a.runs (texts ∙ sym (append-nil (messages a.said))))

-- ---- a session from its beginning to its end

module _ (refuses : SourceMessage → Type 0) (began : UpstreamStateValue) (most limit : ℕ) (unread output written : Option (List ℕ)) (ended : Ended) (counts : Counts) (sent : List Link) (made : List HandlerCall) (fault : Option InputFault) where
  pub first_of : (input : Option (List ℕ)) → HasFollowed refuses began most limit input unread output written ended counts sent made fault
      → IfSome input (λ bytes. SendsFirst most began.up bytes began.sent sent)
  first_of None f = tt
  first_of (Some bytes) f =
      let d = links_exist most began.up bytes in
      let first = sends_first began most limit bytes output written f.now d.0 d.1 unread f.moved in
      record { links = d.0; derived = d.1; first = first.0; rest = first.1; whole = first.2; sent = f.sends ∙ first.3 }

  pub all_of : (input : Option (List ℕ)) → HasFollowed refuses began most limit input unread output written ended counts sent made fault → ended ≡ Closed
      → IfSome input (λ bytes. SendsAll most began.up bytes began.sent sent)
  all_of None f closed = tt
  all_of (Some bytes) f closed =
      let d = links_exist most began.up bytes in
      let done = f.closed closed in
      record { links = d.0; derived = d.1; sent = f.sends ∙ sends_all began most limit bytes output written f.now d.0 d.1 unread f.moved done.0 done.1 }

  pub told_of : (input : Option (List ℕ)) → began.made ≡ [] → (f : HasFollowed refuses began most limit input unread output written ended counts sent made fault)
      → IfSome input (λ bytes. TellsFirst most began.up bytes made)
  told_of None none f = tt
  told_of (Some bytes) none f =
      let d = links_exist most began.up bytes in
      subst (λ (cs : List HandlerCall). TellsFirst most began.up bytes cs) (sym f.makes) (tells_first began most limit bytes output written f.now d.0 d.1 unread none f.moved)
