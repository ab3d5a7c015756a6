-- What a channel carries, call by call.
use Rattle.std.specs.List.{concat, AllZip}
use Rattle.std.proofs.Common.{All, ◌≡◌, ℕ, ◌⊎◌, inl, inr, List, [], ◌∷◌, ◌++◌, Result, Ok, Err, refl, ap, sym, ◌∙◌, subst, arith, append_assoc, append-nil, length, take, drop_of_length-le}
use Rattle.std.proofs.Math.Seq.{take-length}
use Rattle.std.proofs.lemmas.List.Elements.{All-nil, All-cons, All-append, All-head, All-tail}
use Rattle.ovs_wire.specs.declared.error.FrameError.{FrameError}
use Rattle.ovs_wire.specs.declared.error.FrameError.TheVariants.{TooDeep, TooLong}
use Rattle.ovs_wire.specs.declared.error.FrameError.TheVariants as faults
use Rattle.ovs_wire.specs.declared.error.MessageError.{MessageError}
use Rattle.ovs_wire.specs.declared.error.MessageError.TheVariants.{NotJson, BadShape, NoMemory}
use Rattle.ovs_wire.specs.declared.message.Message.{Message}
use Rattle.ovs_wire.specs.Limits.{most_bytes}
use Rattle.ovs_wire.specs.Frames.{Ending, Rest, Fault, IsBalanced, IsObject, IsTooLarge, HasFault, AreFrames}
use Rattle.ovs_wire.specs.Framing.{Framing, IsNew, Feeds, FeedsAfter, Takes, Answers}
use Rattle.ovs_wire.specs.Texts.{Remain}
use Rattle.ovs_wire.specs.Message.{Says, Spells, Reads}
use Rattle.ovs_wire.proofs.Beginnings.{cut_anywhere}
use Rattle.ovs_wire.proofs.Cuts.{only_object, only_fault}
use Rattle.ovs_wire.proofs.Over.{object_or_large}
use Rattle.ovs_wire.proofs.Spelling.{one_message}
use Rattle.ovs_wire.proofs.Unique.{once}
use Rattle.ovs_world.specs.Carrying.{IsTextOf, Line, IsIdle, IsFaulty, Carries, Sends, Receives, Moves, MeetsLarge}

pub carries_nothing : (line : Line) → IsIdle line → Carries line []
carries_nothing line is = record {
  coming = [];
  texts = subst (λ (w : List (List ℕ)). AllZip IsTextOf [] (w ++ [])) (sym is.0.0) tt;
  whole = subst (All (IsObject most_bytes)) (sym is.0.0) (All-nil (IsObject most_bytes));
  rest = subst (λ (e : Ending). Remain most_bytes e line.flight []) (sym is.0.1) is.1;
  limit = is.0.2;
}

-- ---- feeding

texts_balanced : (messages : List Message) (texts : List (List ℕ)) → AllZip IsTextOf messages texts → All IsBalanced texts
texts_balanced [] [] are = All-nil IsBalanced
texts_balanced (m ∷ ms) (t ∷ ts) are = All-cons IsBalanced t ts are.0.written.balanced (texts_balanced ms ts are.1)
texts_balanced [] (t ∷ ts) are = absurd are
texts_balanced (m ∷ ms) [] are = absurd are

others_balanced : (messages : List Message) (waiting coming : List (List ℕ)) → AllZip IsTextOf messages (waiting ++ coming)
    → All IsBalanced coming
others_balanced messages [] coming are = texts_balanced messages coming are
others_balanced (m ∷ ms) (t ∷ waiting) coming are = others_balanced ms waiting coming are.1
others_balanced [] (t ∷ waiting) coming are = absurd are

fed_by : (ending : Ending) (old new : Framing) (flight piece left : List ℕ) (messages : List Message)
    (coming : List (List ℕ)) → flight ≡ piece ++ left → FeedsAfter ending old piece new
    → AllZip IsTextOf messages (old.waiting ++ coming) → All (IsObject most_bytes) old.waiting → Remain most_bytes ending flight coming
    → ending ≡ old.ending → old.limit ≡ most_bytes → Carries (record { framing = new; flight = left }) messages
fed_by (Rest rest) old new flight piece left messages coming parts feeds texts whole remain same limit =
    let all : (rest ++ piece) ++ left ≡ concat coming = append_assoc rest piece left ∙ ap (λ l. rest ++ l) (sym parts) ∙ remain in
    let frames = subst (λ (n : ℕ). AreFrames n (rest ++ piece) feeds.found new.ending) limit feeds.frames in
    let cut = cut_anywhere coming (rest ++ piece) left feeds.found new.ending (others_balanced messages old.waiting coming texts) all frames in
    record {
      coming = cut.1.0;
      texts = subst (λ (l : List (List ℕ)). AllZip IsTextOf messages l)
          (ap (λ l. old.waiting ++ l) (sym cut.1.1) ∙ sym (append_assoc old.waiting feeds.found cut.1.0)
          ∙ ap (λ l. l ++ cut.1.0) (sym feeds.waiting)) texts;
      whole = subst (All (IsObject most_bytes)) (sym feeds.waiting) (All-append (IsObject most_bytes) old.waiting feeds.found whole cut.0);
      rest = cut.1.2;
      limit = feeds.limit ∙ limit;
    }
fed_by (Fault fault) old new flight piece left messages coming parts feeds texts whole remain same limit =
    record {
      coming = coming;
      texts = subst (λ (n : Framing). AllZip IsTextOf messages (n.waiting ++ coming)) (sym feeds) texts;
      whole = subst (λ (n : Framing). All (IsObject most_bytes) n.waiting) (sym feeds) whole;
      rest = subst (λ (n : Framing). Remain most_bytes n.ending left coming) (sym feeds)
          (subst (λ (e : Ending). Remain most_bytes e left coming) same remain);
      limit = ap (λ (n : Framing). n.limit) feeds ∙ limit;
    }

pub carries_fed : (old new : Framing) (flight piece left : List ℕ) (messages : List Message)
    → Carries (record { framing = old; flight = flight }) messages → flight ≡ piece ++ left → Feeds old piece new
    → Carries (record { framing = new; flight = left }) messages
carries_fed old new flight piece left messages carries parts feeds =
    fed_by old.ending old new flight piece left messages carries.coming parts feeds carries.texts carries.whole carries.rest refl carries.limit

-- a fault, after which what is in flight doesn't count
fault_stays : (ending : Ending) (fault : FrameError) (flight left : List ℕ) (coming : List (List ℕ)) → ending ≡ Fault fault
    → Remain most_bytes ending left coming → Remain most_bytes ending flight coming
fault_stays ending fault flight left coming is remain =
    subst (λ (e : Ending). Remain most_bytes e flight coming) (sym is) (subst (λ (e : Ending). Remain most_bytes e left coming) is remain)

pub carries_stopped : (old new : Framing) (fault : FrameError) (flight piece left : List ℕ) (messages : List Message)
    → Carries (record { framing = old; flight = flight }) messages → flight ≡ piece ++ left → Feeds old piece new
    → new.ending ≡ Fault fault → Carries (record { framing = new; flight = flight }) messages
carries_stopped old new fault flight piece left messages carries parts feeds is =
    let next = carries_fed old new flight piece left messages carries parts feeds in
    record {
      coming = next.coming;
      texts = next.texts;
      whole = next.whole;
      rest = fault_stays new.ending fault flight left next.coming is next.rest;
      limit = next.limit;
    }

abbrev pub refused : FrameError → Result (Unit {0}) FrameError
refused e = Err e

answer_is : (ending : Ending) (e : FrameError) → Answers ending (refused e) → ending ≡ Fault e
answer_is (Rest rest) e answer = absurd answer
answer_is (Fault fault) e answer = ap Fault answer

-- a feed that was refused: it found a fault, or did nothing
pub carries_refused : (old new : Framing) (flight piece left : List ℕ) (messages : List Message) (e : FrameError)
    → Carries (record { framing = old; flight = flight }) messages → flight ≡ piece ++ left
    → ((refused e ≡ Err faults.NoMemory → ⊥) → Feeds old piece new)
    → ((refused e ≡ Err faults.NoMemory → ⊥) → Answers new.ending (refused e))
    → (refused e ≡ Err faults.NoMemory → new ≡ old)
    → Carries (record { framing = new; flight = flight }) messages
carries_refused old new flight piece left messages e carries parts feeds answer memory = by e feeds answer memory
  where
    stopped : (e : FrameError) → Feeds old piece new → Answers new.ending (refused e)
        → Carries (record { framing = new; flight = flight }) messages
    stopped e feeds answer =
        carries_stopped old new e flight piece left messages carries parts feeds (answer_is new.ending e answer)

    by : (e : FrameError) → ((refused e ≡ Err faults.NoMemory → ⊥) → Feeds old piece new)
        → ((refused e ≡ Err faults.NoMemory → ⊥) → Answers new.ending (refused e))
        → (refused e ≡ Err faults.NoMemory → new ≡ old) → Carries (record { framing = new; flight = flight }) messages
    by faults.NoMemory feeds answer memory =
        subst (λ (f : Framing). Carries (record { framing = f; flight = flight }) messages) (sym (memory refl)) carries
    by faults.NotObject feeds answer memory = stopped faults.NotObject (feeds (λ e. cc)) (answer (λ e. cc))
    by faults.TooDeep feeds answer memory = stopped faults.TooDeep (feeds (λ e. cc)) (answer (λ e. cc))
    by faults.TooLong feeds answer memory = stopped faults.TooLong (feeds (λ e. cc)) (answer (λ e. cc))

-- ---- sending

written_more : (ms : List Message) (ts : List (List ℕ)) (m : Message) (t : List ℕ) → AllZip IsTextOf ms ts → IsTextOf m t
    → AllZip IsTextOf (ms ++ m ∷ []) (ts ++ t ∷ [])
written_more [] [] m t are is = (is, tt)
written_more (n ∷ ms) (x ∷ ts) m t are is = (are.0, written_more ms ts m t are.1 is)
written_more [] (x ∷ ts) m t are is = absurd are
written_more (n ∷ ms) [] m t are is = absurd are

concat_more : (ts : List (List ℕ)) (t : List ℕ) → concat (ts ++ t ∷ []) ≡ concat ts ++ t
concat_more [] t = append-nil t
concat_more (x ∷ ts) t = ap (λ l. x ++ l) (concat_more ts t) ∙ sym (append_assoc x (concat ts) t)

remain_more : (ending : Ending) (flight t : List ℕ) (texts : List (List ℕ)) → Remain most_bytes ending flight texts
    → Remain most_bytes ending (flight ++ t) (texts ++ t ∷ [])
remain_more (Rest rest) flight t texts remain =
    sym (append_assoc rest flight t) ∙ ap (λ l. l ++ t) remain ∙ sym (concat_more texts t)
remain_more (Fault fault) flight t texts remain =
    (remain.0, remain.1 ++ t ∷ [], ap (λ l. l ++ t ∷ []) remain.2, remain.3)

pub carries_sent : (line : Line) (messages : List Message) (m : Message) (t : List ℕ) → Carries line messages → IsTextOf m t
    → Carries (record { framing = line.framing; flight = line.flight ++ t }) (messages ++ m ∷ [])
carries_sent line messages m t carries is = record {
  coming = carries.coming ++ t ∷ [];
  texts = subst (λ (l : List (List ℕ)). AllZip IsTextOf (messages ++ m ∷ []) l)
      (append_assoc line.framing.waiting carries.coming (t ∷ []))
      (written_more messages (line.framing.waiting ++ carries.coming) m t carries.texts is);
  whole = carries.whole;
  rest = remain_more line.framing.ending line.flight t carries.coming carries.rest;
  limit = carries.limit;
}

-- ---- taking out

-- an object nests no deeper than what can be read, and says the message that was written
object_says : (m : Message) (t : List ℕ) → IsTextOf m t → IsObject most_bytes t → Says t m
object_says m t text object =
    let at = text.written.nested.reached in
    text.written.says (omega (arith, object.limits.nests at.0, at.1))

-- the first message, which the text says, and what the channel carries without it
pub record Took (line : Line) (text : List ℕ) (messages : List Message) : Type 0 where
  pub first : Message
  pub more : List Message
  pub are : messages ≡ first ∷ more
  pub says : Says text first
  pub rest : Carries line more

took_by : (old new : Framing) (flight text : List ℕ) (messages : List Message) (coming : List (List ℕ))
    → new.ending ≡ old.ending → new.limit ≡ most_bytes → AllZip IsTextOf messages (text ∷ (new.waiting ++ coming))
    → All (IsObject most_bytes) (text ∷ new.waiting) → Remain most_bytes old.ending flight coming
    → Took (record { framing = new; flight = flight }) text messages
took_by old new flight text [] coming same limit texts whole remain = absurd texts
took_by old new flight text (m ∷ ms) coming same limit texts whole remain = record {
  first = m;
  more = ms;
  are = refl;
  says = object_says m text texts.0 (All-head (IsObject most_bytes) text new.waiting whole);
  rest = record {
    coming = coming;
    texts = texts.1;
    whole = All-tail (IsObject most_bytes) text new.waiting whole;
    rest = subst (λ (e : Ending). Remain most_bytes e flight coming) (sym same) remain;
    limit = limit;
  };
}

pub carries_taken : (old new : Framing) (flight text : List ℕ) (messages : List Message)
    → Carries (record { framing = old; flight = flight }) messages → Takes old text new
    → Took (record { framing = new; flight = flight }) text messages
carries_taken old new flight text messages carries takes =
    took_by old new flight text messages carries.coming takes.1 (takes.2 ∙ carries.limit)
    (subst (λ (l : List (List ℕ)). AllZip IsTextOf messages (l ++ carries.coming)) takes.0 carries.texts)
    (subst (All (IsObject most_bytes)) takes.0 carries.whole) carries.rest

-- the message that was read is the first
pub took_this : (line : Line) (text : List ℕ) (messages : List Message) (m : Message) → Took line text messages
    → Says text m → (more : List Message) × (messages ≡ m ∷ more) × Carries line more
took_this line text messages m took says =
    let same : took.first ≡ m = one_message text took.first m took.says says in
    (took.more, took.are ∙ ap (λ x. x ∷ took.more) same, took.rest)

-- what says a message is refused for want of memory alone
pub says_no_other_error : (text : List ℕ) (m : Message) (e : MessageError) → Says text m → Reads text (Err e) → e ≡ NoMemory
says_no_other_error text m NotJson says refused = absurd (refused says.0 says.1)
says_no_other_error text m BadShape says refused =
    let same : says.0 ≡ refused.0 = cc (says.1.1, refused.1.1) in
    absurd (refused.2 m (subst (λ d. Spells d m) same says.2))
says_no_other_error text m NoMemory says refused = refl

-- ---- passing a message at once

-- a text that was fed to a framer that holds nothing, without a fault: it waits, and nothing else
pub record IsWhole (text : List ℕ) (now : Framing) : Type 0 where
  pub object : IsObject most_bytes text
  pub waiting : now.waiting ≡ text ∷ []
  pub ending : now.ending ≡ Rest []
  pub limit : now.limit ≡ most_bytes

fed_alone : (old new : Framing) (text : List ℕ) → IsNew most_bytes old → Feeds old text new → (found : List (List ℕ)) × AreFrames most_bytes text found new.ending × (new.waiting ≡ found) × (new.limit ≡ most_bytes)
fed_alone old new text is feeds =
    let adds : FeedsAfter (Rest []) old text new = subst (λ (e : Ending). FeedsAfter e old text new) is.1 feeds in (
      adds.found,
      subst (λ (n : ℕ). AreFrames n text adds.found new.ending) is.2 adds.frames,
      adds.waiting ∙ ap (λ (w : List (List ℕ)). w ++ adds.found) is.0,
      adds.limit ∙ is.2,
    )

-- there is no fault in an object, and one in every other balanced text
pub whole_or_large : (old new : Framing) (text : List ℕ) → IsNew most_bytes old → Feeds old text new → IsBalanced text
    → IsWhole text new ⊎ (IsTooLarge most_bytes text × ((fault : FrameError) × (new.ending ≡ Fault fault)))
whole_or_large old new text is feeds balanced = by (object_or_large text balanced)
  where
    alone : (found : List (List ℕ)) × AreFrames most_bytes text found new.ending × (new.waiting ≡ found) × (new.limit ≡ most_bytes)
    alone = fed_alone old new text is feeds

    large : (fault : FrameError) → HasFault most_bytes text fault → IsTooLarge most_bytes text → IsWhole text new ⊎ (IsTooLarge most_bytes text × ((fault : FrameError) × (new.ending ≡ Fault fault)))
    large fault has is_large = inr (is_large, (fault, sym (once text [] alone.0 (Fault fault) new.ending (only_fault text fault has) alone.1).1))

    by : IsObject most_bytes text ⊎ IsTooLarge most_bytes text → IsWhole text new ⊎ (IsTooLarge most_bytes text × ((fault : FrameError) × (new.ending ≡ Fault fault)))
    by (inl object) =
        let same = once text (text ∷ []) alone.0 (Rest []) new.ending (only_object text object) alone.1 in
        inl (record { object = object; waiting = alone.2 ∙ sym same.0; ending = sym same.1; limit = alone.3 })
    by (inr (inl deep)) = large TooDeep deep (inl deep)
    by (inr (inr long)) = large TooLong long (inr long)

abbrev pub fine : ℕ → Result ℕ FrameError
fine n = Ok n

-- a message that was sent and fed whole, where nothing else was on its way
pub passes : (old mid new : Line) (m : Message) (n : ℕ) → IsIdle old → Sends old m mid → n ≡ length mid.flight → Moves mid n new → Answers new.framing.ending (fine n)
    → (text : List ℕ) × IsTextOf m text × IsWhole text new.framing × (new.flight ≡ [])
passes old mid new m n idle sends all moves answers = (text, sends.1, whole (whole_or_large old.framing new.framing text idle.0 feeds sends.1.written.balanced), moves.1 ∙ drop_of_length-le mid.flight (omega (arith, all)))
  where
    text : List ℕ
    text = sends.0

    flight_is : mid.flight ≡ text
    flight_is = ap (λ (l : Line). l.flight) sends.2 ∙ ap (λ (f : List ℕ). f ++ text) idle.1

    feeds : Feeds old.framing text new.framing
    feeds = subst (λ (f : Framing). Feeds f text new.framing) (ap (λ (l : Line). l.framing) sends.2)
        (subst (λ (p : List ℕ). Feeds mid.framing p new.framing) (ap (λ k. take k mid.flight) all ∙ take-length mid.flight ∙ flight_is) moves.0)

    no_fault : (ending : Ending) (fault : FrameError) → ending ≡ Fault fault → Answers ending (fine n) → ⊥
    no_fault (Rest rest) fault is a = absurd cc
    no_fault (Fault f) fault is a = a

    whole : IsWhole text new.framing ⊎ (IsTooLarge most_bytes text × ((fault : FrameError) × (new.framing.ending ≡ Fault fault))) → IsWhole text new.framing
    whole (inl w) = w
    whole (inr large) = absurd (no_fault new.framing.ending large.1.0 large.1.1 answers)

-- and what is taken out then is the message
pub passed_this : (m other : Message) (text : List ℕ) (now new : Line) → IsTextOf m text → IsWhole text now.framing → now.flight ≡ [] → Receives now other new
    → (other ≡ m) × IsIdle new
passed_this m other text now new written whole none receives =
    let waits : text ∷ [] ≡ receives.0 ∷ new.framing.waiting = sym whole.waiting ∙ receives.2.0 in
    let same : receives.0 ≡ text = cc in
    let rest : new.framing.waiting ≡ [] = cc in (
      one_message text other m (subst (λ (t : List ℕ). Says t other) same receives.1) (object_says m text written whole.object),
      ((rest, receives.2.1 ∙ whole.ending, receives.2.2 ∙ whole.limit), receives.3 ∙ none),
    )

-- a fault tells that the message is too large
pub stopped_large : (old mid : Line) (now : Framing) (m : Message) (n : ℕ) (fault : FrameError) → IsIdle old → Sends old m mid → n ≡ length mid.flight → Feeds mid.framing (take n mid.flight) now
    → now.ending ≡ Fault fault → (text : List ℕ) × IsTextOf m text × IsTooLarge most_bytes text
stopped_large old mid now m n fault idle sends all fed is = (text, sends.1, large (whole_or_large old.framing now text idle.0 feeds sends.1.written.balanced))
  where
    text : List ℕ
    text = sends.0

    flight_is : mid.flight ≡ text
    flight_is = ap (λ (l : Line). l.flight) sends.2 ∙ ap (λ (f : List ℕ). f ++ text) idle.1

    feeds : Feeds old.framing text now
    feeds = subst (λ (f : Framing). Feeds f text now) (ap (λ (l : Line). l.framing) sends.2)
        (subst (λ (p : List ℕ). Feeds mid.framing p now) (ap (λ k. take k mid.flight) all ∙ take-length mid.flight ∙ flight_is) fed)

    large : IsWhole text now ⊎ (IsTooLarge most_bytes text × ((fault : FrameError) × (now.ending ≡ Fault fault))) → IsTooLarge most_bytes text
    large (inl w) = absurd (let e : Rest [] ≡ Fault fault = sym w.ending ∙ is in cc)
    large (inr l) = l.0

-- where none is whole and a fault has come, the next message is above the limits
pub meets_large : (line : Line) (messages : List Message) → Carries line messages → line.framing.waiting ≡ [] → IsFaulty line.framing.ending → MeetsLarge line
meets_large line messages carries none faulty = let is = over line.framing.ending faulty carries.rest in split messages is carries (zipped is.0 is.1 is.2)
  where
    over : (e : Ending) → IsFaulty e → Remain most_bytes e line.flight carries.coming → (large : List ℕ) × (more : List (List ℕ)) × (carries.coming ≡ large ∷ more) × IsTooLarge most_bytes large
    over (Rest rest) f r = absurd f
    over (Fault fault) f r = r

    zipped : (large : List ℕ) (more : List (List ℕ)) → carries.coming ≡ large ∷ more → AllZip IsTextOf messages (large ∷ more)
    zipped large more e = subst (AllZip IsTextOf messages) (ap (λ (ts : List (List ℕ)). ts ++ carries.coming) none ∙ e) carries.texts

    split : (ms : List Message) (is : (large : List ℕ) × (more : List (List ℕ)) × (carries.coming ≡ large ∷ more) × IsTooLarge most_bytes large) → Carries line ms → AllZip IsTextOf ms (is.0 ∷ is.1) → MeetsLarge line
    split [] is c z = absurd z
    split (m ∷ ms) is c z = record { waiting = none; faulty = faulty; message = m; more = ms; carried = c; large = (is.0, z.0, is.3) }
