-- Texts one behind another are a stream of the messages that they say.
use Rattle.std.proofs.Common.{◌≡◌, ◌<◌, ◌+◌, ℕ, List, [], ◌∷◌, ◌++◌, length, map, take, get_or, append_assoc, refl, sym, ◌∙◌, ap, subst, arith, ⊎_elim}
use Rattle.std.proofs.lemmas.List.{append-nil, map-append, take_more}
use Rattle.std.proofs.lemmas.List.Elements.{All-nil, All-cons, All-append}
use Rattle.std.proofs.lemmas.List.Folds.{concat-append}
use Rattle.std.specs.List.{AllZip, concat}
use Rattle.std.specs.Prelude.{Ok}
use Rattle.ovs_types.specs.declared.schema.Table.{Table}
use Rattle.ovs_links.specs.declared.link.Link.{Link}
use Rattle.ovs_wire.specs.Frames.{Ending, Rest, Fault, AreFrames, HasFault, IsBalanced, IsObject, IsTooLarge}
use Rattle.ovs_wire.specs.Framing.{Framing, Adds, Answers, Feeds, FeedsAfter, IsNew}
use Rattle.ovs_wire.specs.Limits.{most_bytes}
use Rattle.ovs_wire.specs.Message.{Says, IsWritten}
use Rattle.ovs_wire.specs.declared.error.FrameError.{FrameError}
use Rattle.ovs_wire.specs.declared.error.FrameError.TheVariants.{TooDeep, TooLong}
use Rattle.ovs_wire.specs.declared.message.Message.{Message}
use Rattle.ovs_wire.proofs.Cuts.{only_fault, only_objects}
use Rattle.ovs_wire.proofs.Over.{object_or_large}
use Rattle.ovs_wire.proofs.Unique.{once}
use Rattle.ovs_upstream.specs.Lawful.{IsStreamOf}
use Rattle.ovs_stream_cases.specs.Said.{update_notice, AreSaid}

-- ---- a text that a framer takes is one frame

no_fault : {most : ℕ} (text : List ℕ) (found : List (List ℕ)) (rest : List ℕ) (f : FrameError) → AreFrames most text found (Rest rest) → HasFault most text f → ⊥
no_fault text found rest f frames fault = cc (once text found [] (Rest rest) (Fault f) frames (only_fault text f fault)).1

object_of : {most : ℕ} (text : List ℕ) (found : List (List ℕ)) (rest : List ℕ) → IsBalanced text → AreFrames most text found (Rest rest) → IsObject most text
object_of {most} text found rest balanced frames =
    ⊎_elim (λ (o : IsObject most text). o)
    (λ (large : IsTooLarge most text). absurd (⊎_elim (λ (deep : HasFault most text TooDeep). no_fault text found rest _ frames deep) (λ (long : HasFault most text TooLong). no_fault text found rest _ frames long) large))
    (object_or_large text balanced)

ended : {most : ℕ} {X : Type 0} (text : List ℕ) (found : List (List ℕ)) (x : X) → IsBalanced text → (e : Ending) → AreFrames most text found e → Answers {X = X} e (Ok x)
    → IsObject most text
ended text found x balanced (Rest rest) frames a = object_of text found rest balanced frames
ended text found x balanced (Fault f) frames a = absurd a

pub taken_object : {most : ℕ} {X : Type 0} (text piece : List ℕ) (old new : Framing) (x : X) → piece ≡ text → IsBalanced text → IsNew most old → Feeds old piece new
    → Answers {X = X} new.ending (Ok x) → IsObject most text
taken_object {most} {X} text piece old new x same balanced fresh feeds answers =
    let adds : Adds old [] piece new = subst (λ (e : Ending). FeedsAfter e old piece new) fresh.1 feeds in
    let frames : AreFrames most piece adds.found new.ending = subst (λ (n : ℕ). AreFrames n piece adds.found new.ending) fresh.2 adds.frames in
    ended text adds.found x balanced new.ending (subst (λ (bs : List ℕ). AreFrames most bs adds.found new.ending) same frames) answers

-- and says its message
pub object_says : {most : ℕ} (m : Message) (text : List ℕ) → IsWritten m text → IsObject most text → Says text m
object_says m text written object =
    let deepest = written.nested.reached in
    written.says (omega (arith, deepest.1, object.limits.nests deepest.0))

-- ---- one text more

zip_more : (texts : List (List ℕ)) (messages : List Message) (text : List ℕ) (m : Message) → AllZip Says texts messages → Says text m
    → AllZip Says (texts ++ text ∷ []) (messages ++ m ∷ [])
zip_more [] [] text m all says = (says, tt)
zip_more [] (n ∷ ns) text m all says = absurd all
zip_more (t ∷ ts) [] text m all says = absurd all
zip_more (t ∷ ts) (n ∷ ns) text m all says = (all.0, zip_more ts ns text m all.1 says)

pub none_said : (bytes : List ℕ) → bytes ≡ [] → AreSaid [] bytes
none_said bytes none = record { texts = []; whole = none; frames = All-nil (IsObject most_bytes); say = tt }

pub said_more : (messages : List Message) (bytes : List ℕ) (text : List ℕ) (m : Message) → AreSaid messages bytes → IsObject most_bytes text → Says text m
    → AreSaid (messages ++ m ∷ []) (bytes ++ text)
said_more messages bytes text m all object says = record {
  texts = all.texts ++ text ∷ [];
  whole = ap (λ (bs : List ℕ). bs ++ text) all.whole ∙ ap (λ (bs : List ℕ). concat all.texts ++ bs) (sym (append-nil text)) ∙ sym (concat-append all.texts (text ∷ []));
  frames = All-append (IsObject most_bytes) all.texts (text ∷ []) all.frames (All-cons (IsObject most_bytes) text [] object (All-nil (IsObject most_bytes)));
  say = zip_more all.texts messages text m all.say says;
}

pub said_stream : (messages : List Message) (bytes : List ℕ) → AreSaid messages bytes → IsStreamOf most_bytes messages bytes
said_stream messages bytes all = record {
  texts = all.texts;
  rest = [];
  frames = subst (λ (bs : List ℕ). AreFrames most_bytes bs all.texts (Rest [])) (sym all.whole) (only_objects all.texts all.frames);
  said = all.say;
}

-- ---- more and more

append_said : (before : List Message) (m : Message) (ms : List Message) → (before ++ m ∷ []) ++ ms ≡ before ++ m ∷ ms
append_said [] m ms = refl
append_said (n ∷ before) m ms = ap (λ (ns : List Message). n ∷ ns) (append_said before m ms)

-- one message and then others are all of them
pub said_all : (m : Message) (ms before : List Message) (bytes : List ℕ) → AreSaid ((before ++ m ∷ []) ++ ms) bytes → AreSaid (before ++ m ∷ ms) bytes
said_all m ms before bytes all = subst (λ (ns : List Message). AreSaid ns bytes) (append_said before m ms) all

-- ---- updates one by one

append_update : (tables : List Table) (before : List Message) (ls : List Link) (k : ℕ) (l : Link) → k < length ls → l ≡ get_or ls k l
    → (before ++ map (update_notice tables) (take k ls)) ++ update_notice tables l ∷ [] ≡ before ++ map (update_notice tables) (take (k + 1) ls)
append_update tables before ls k l below here =
    append_assoc before (map (update_notice tables) (take k ls)) (update_notice tables l ∷ [])
    ∙ ap (λ (ms : List Message). before ++ ms)
    (sym (map-append (update_notice tables) (take k ls) (l ∷ []))
    ∙ ap (map (update_notice tables)) (ap (λ (m : Link). take k ls ++ m ∷ []) here ∙ sym (take_more ls k l below)))

pub said_update : (tables : List Table) (before : List Message) (ls : List Link) (k : ℕ) (l : Link) (bytes : List ℕ) → k < length ls → l ≡ get_or ls k l
    → AreSaid ((before ++ map (update_notice tables) (take k ls)) ++ update_notice tables l ∷ []) bytes → AreSaid (before ++ map (update_notice tables) (take (k + 1) ls)) bytes
said_update tables before ls k l bytes below here said = subst (λ (ms : List Message). AreSaid ms bytes) (append_update tables before ls k l below here) said

pub none_more : (before : List Message) (bytes : List ℕ) → AreSaid before bytes → AreSaid (before ++ []) bytes
none_more before bytes said = subst (λ (ms : List Message). AreSaid ms bytes) (sym (append-nil before)) said
