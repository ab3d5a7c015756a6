-- Messages that are written, fed, taken and read.
use Rattle.std.specs.List.{concat, AllZip}
use Rattle.std.proofs.Common.{All, ◌≡◌, ℕ, ◌<◌, ◌≤◌, inl, inr, List, [], ◌∷◌, ◌++◌, length, Ok, Err, refl, ap, sym, ◌∙◌, subst, append_assoc, append-nil, arith}
use Rattle.std.proofs.lemmas.List.Elements.{All-nil, All-cons}
use Rattle.serde_json.specs.Data.{Data, depth as data_depth}
use Rattle.serde_json.specs.Read.{max_depth}
use Rattle.ovs_wire.specs.declared.error.FrameError.TheVariants.{TooDeep, TooLong}
use Rattle.ovs_wire.specs.declared.error.MessageError.TheVariants.{NotJson, BadShape, NoMemory}
use Rattle.ovs_wire.specs.declared.message.Message.{Message}
use Rattle.ovs_wire.specs.Limits.{most_nesting}
use Rattle.ovs_wire.specs.Frames.{Ending, Rest, Fault, AreFrames, IsObject}
use Rattle.ovs_wire.specs.Framing.{Framing, IsNew, Call, Feed, Take, Leads, fed, taken, Follows}
use Rattle.ovs_wire.specs.Message.{Spells, Says, json, IsWritten, IsSent, ReadsBack}
use Rattle.ovs_wire.proofs.Cuts.{cut, fault_on, follows, follows_none, follows_taken, only_objects, only_rest, only_object}
use Rattle.ovs_wire.proofs.NextByte.{unfinished_now}
use Rattle.ovs_wire.proofs.Unique.{once}
use Rattle.ovs_wire.proofs.Exists.{each}
use Rattle.ovs_wire.proofs.Over.{deep_frames, too_long}
use Rattle.ovs_wire.proofs.Spelling.{one_message}

-- ---- calls on a framer

calls_follow : {most : ℕ} (calls : List Call) (stream : List ℕ) (before : List (List ℕ)) (old new : Framing)
    → Follows most stream before old → Leads calls old new → Follows most (stream ++ fed calls) (before ++ taken calls) new
calls_follow {most} [] stream before old new is leads =
    subst (λ (n : Framing). Follows most (stream ++ []) (before ++ []) n) (sym leads)
    (simp append-nil is.0, is.1)
calls_follow {most} (Feed piece ∷ calls) stream before old new is leads =
    subst (λ (l : List ℕ). Follows most l (before ++ taken calls) new) (append_assoc stream piece (fed calls))
    (calls_follow calls (stream ++ piece) before leads.0 new
    (follows stream piece before old leads.0 is leads.1) leads.2)
calls_follow {most} (Take message ∷ calls) stream before old new is leads =
    subst (λ (l : List (List ℕ)). Follows most (stream ++ fed calls) l new)
    (append_assoc before (message ∷ []) (taken calls))
    (calls_follow calls stream (before ++ message ∷ []) leads.0 new
    (follows_taken stream message before old leads.0 is leads.1) leads.2)

pub calls_from_new : {most : ℕ} (calls : List Call) (new now : Framing) → IsNew most new → Leads calls new now
    → Follows most (fed calls) (taken calls) now
calls_from_new calls new now is leads = calls_follow calls [] [] new now (follows_none new is) leads

-- ---- what comes out of a stream of objects that is under way

-- the others, which come with the later bytes, and none where no more bytes come
pub record ComesFirst (texts : List (List ℕ)) (first : List (List ℕ)) (ending : Ending) (later : List ℕ) : Type 0 where
  pub others : List (List ℕ)
  pub whole : texts ≡ first ++ others
  pub all : later ≡ [] → (others ≡ []) × (ending ≡ Rest [])

first_of : {most : ℕ} (texts : List (List ℕ)) (x later : List ℕ) (first : List (List ℕ)) (ending : Ending) → All (IsObject most) texts
    → AreFrames most x first ending → x ++ later ≡ concat texts → ComesFirst texts first ending later
first_of {most} texts x later first (Fault f) are frames is =
    let objects = subst (λ (l : List ℕ). AreFrames most l texts (Rest [])) (sym is) (only_objects texts are) in
    absurd (cc (once (x ++ later) first texts (Fault f) (Rest []) (fault_on x later first f frames) objects).1)
first_of {most} texts x later first (Rest left) are frames is =
    let objects = subst (λ (l : List ℕ). AreFrames most l texts (Rest [])) (sym is) (only_objects texts are) in
    let more = each (left ++ later) in
    let joined = cut x later first more.0 left more.1 frames more.2 in
    let same = once (x ++ later) texts (first ++ more.0) (Rest []) more.1 objects joined in
    record {
      others = more.0;
      whole = same.0;
      all = λ none.
          let alone = subst (λ (l : List ℕ). AreFrames most l [] (Rest left))
          (sym (ap (λ l. left ++ l) none ∙ append-nil left)) (only_rest left (unfinished_now x first left frames)) in
          let ends = once (left ++ later) more.0 [] more.1 (Rest left) more.2 alone in
          (ends.0, sym ends.1 ∙ sym same.1);
    }

pub objects_come_first : {most : ℕ} (texts : List (List ℕ)) (calls : List Call) (later : List ℕ) (new now : Framing)
    → All (IsObject most) texts → IsNew most new → Leads calls new now → fed calls ++ later ≡ concat texts
    → ComesFirst texts (taken calls ++ now.waiting) now.ending later
objects_come_first texts calls later new now are is leads whole = first_of texts (fed calls) later
    (taken calls ++ now.waiting) now.ending are (calls_from_new calls new now is leads).0 whole

-- ---- messages

-- a read of what says a message gives that message
pub reads_back : (m : Message) (text : List ℕ) → Says text m → ReadsBack m text
reads_back m text says (Ok n) reads = inl (ap Ok (one_message text n m reads says))
reads_back m text says (Err NotJson) reads = absurd (reads says.0 says.1)
reads_back m text says (Err BadShape) reads =
    let same : says.0 ≡ reads.0 = cc (says.1.1, reads.1.1) in
    absurd (reads.2 m (subst (λ (d : Data). Spells d m) same says.2))
reads_back m text says (Err NoMemory) reads = inr refl

sent_object : {most : ℕ} (m : Message) (text : List ℕ) → IsSent most m text → IsObject most text
sent_object m text sent = record {
  balanced = sent.written.balanced;
  limits = record { nests = λ k. omega (arith, sent.written.nested.at_most k, sent.nests); fits = sent.fits };
}

sent_reads_back : {most : ℕ} (m : Message) (text : List ℕ) → IsSent most m text → ReadsBack m text
sent_reads_back m text sent = reads_back m text (sent.written.says (omega (arith, sent.nests)))

sent_objects : {most : ℕ} (messages : List Message) (texts : List (List ℕ)) → AllZip (IsSent most) messages texts → All (IsObject most) texts
sent_objects {most} [] [] sent = All-nil (IsObject most)
sent_objects {most} (m ∷ ms) (t ∷ ts) sent = All-cons (IsObject most) t ts (sent_object m t sent.0) (sent_objects ms ts sent.1)
sent_objects [] (t ∷ ts) sent = absurd sent
sent_objects (m ∷ ms) [] sent = absurd sent

-- the messages whose texts came first
pub record FirstOf (messages : List Message) (first : List (List ℕ)) (others : List (List ℕ)) : Type 0 where
  pub sent : List Message
  pub left : List Message
  pub whole : messages ≡ sent ++ left
  pub read : AllZip ReadsBack sent first
  pub none : others ≡ [] → left ≡ []

first_messages : (most : ℕ) (messages : List Message) (first others : List (List ℕ)) → AllZip (IsSent most) messages (first ++ others)
    → FirstOf messages first others
first_messages most [] [] others sent = record { sent = []; left = []; whole = refl; read = tt; none = λ e. refl }
first_messages most (m ∷ ms) [] others sent = record {
  sent = [];
  left = m ∷ ms;
  whole = refl;
  read = tt;
  none = λ e. absurd (subst (AllZip (IsSent most) (m ∷ ms)) e sent);
}
first_messages most [] (t ∷ first) others sent = absurd sent
first_messages most (m ∷ ms) (t ∷ first) others sent =
    let later = first_messages most ms first others sent.1 in
    record {
      sent = m ∷ later.sent;
      left = later.left;
      whole = ap (λ l. m ∷ l) later.whole;
      read = (sent_reads_back m t sent.0, later.read);
      none = later.none;
    }

-- ---- what is written, above the limits and within them

pub sent_frame : {most : ℕ} (m : Message) (text : List ℕ) → IsSent most m text → AreFrames most text (text ∷ []) (Rest [])
sent_frame m text sent = only_object text (sent_object m text sent)

pub written_deep : {most : ℕ} (m : Message) (text : List ℕ) → IsWritten m text → most_nesting < data_depth (json m)
    → length text ≤ most → AreFrames most text [] (Fault TooDeep)
written_deep m text is deep fits =
    let at = is.nested.reached in
    deep_frames text at.0 is.balanced fits (omega (arith, at.1, deep))

pub written_long : {most : ℕ} (m : Message) (text : List ℕ) → IsWritten m text → data_depth (json m) ≤ most_nesting
    → most < length text → AreFrames most text [] (Fault TooLong)
written_long m text is low long =
    too_long text is.balanced long (λ k short. omega (arith, is.nested.at_most k, low))

pub written_says : (m : Message) (text : List ℕ) → IsWritten m text → data_depth (json m) ≤ max_depth
    → Says text m × ((n : Message) → Says text n → n ≡ m)
written_says m text is nests =
    let says = is.says nests in (says, λ n others. one_message text n m others says)

pub come_through : {most : ℕ} (messages : List Message) (texts : List (List ℕ)) (calls : List Call) (later : List ℕ)
    (new now : Framing) → AllZip (IsSent most) messages texts → IsNew most new → Leads calls new now
    → fed calls ++ later ≡ concat texts
    → (read : List Message) × (left : List Message) × (messages ≡ read ++ left) × AllZip ReadsBack read (taken calls)
    × (later ≡ [] → now.waiting ≡ [] → left ≡ [])
come_through {most} messages texts calls later new now sent is leads whole =
    let r = objects_come_first texts calls later new now (sent_objects messages texts sent) is leads whole in
    let order : texts ≡ taken calls ++ (now.waiting ++ r.others) =
    r.whole ∙ append_assoc (taken calls) now.waiting r.others in
    let f = first_messages most messages (taken calls) (now.waiting ++ r.others)
    (subst (AllZip (IsSent most) messages) order sent) in (
      f.sent,
      f.left,
      f.whole,
      f.read,
      λ none waits. f.none (ap (λ l. l ++ r.others) waits ∙ (r.all none).0),
    )
