-- A limit of a message's bytes, and another that is no less.
use Rattle.std.proofs.Common.{All, ◌≡◌, ℕ, ◌≤◌, List, [], ◌∷◌, ◌++◌, refl, sym, subst, arith}
use Rattle.std.proofs.lemmas.List.{append-nil}
use Rattle.std.proofs.lemmas.List.Elements.{All-nil, All-cons, All-head, All-tail}
use Rattle.ovs_wire.specs.declared.error.FrameError.{FrameError}
use Rattle.ovs_wire.specs.declared.error.FrameError.TheVariants.{NotObject, TooDeep, TooLong, NoMemory}
use Rattle.ovs_wire.specs.Frames.{IsWithinLimits, IsObject, IsUnfinished, Breaks, Part, Space, Object, IsPart, joined, Ending, Rest, Fault, EndsAs, AreFrames}
use Rattle.ovs_wire.specs.Framing.{Framing, IsNew, Call, Leads, fed, taken}
use Rattle.ovs_wire.proofs.Cuts.{cut, nothing}
use Rattle.ovs_wire.proofs.Exists.{each}
use Rattle.ovs_wire.proofs.Through.{calls_from_new}
use Rattle.ovs_wire.proofs.Unique.{once}

limits_too : {most other : ℕ} (x : List ℕ) → most ≤ other → IsWithinLimits most x → IsWithinLimits other x
limits_too x le is = record { nests = is.nests; fits = omega (arith, is.fits, le) }

object_too : {most other : ℕ} (o : List ℕ) → most ≤ other → IsObject most o → IsObject other o
object_too o le is = record { balanced = is.balanced; limits = limits_too o le is.limits }

unfinished_too : {most other : ℕ} (r : List ℕ) → most ≤ other → IsUnfinished most r → IsUnfinished other r
unfinished_too r le is = record { begun = is.begun; limits = limits_too r le is.limits }

breaks_too : (most other : ℕ) (u : List ℕ) (b : ℕ) (f : FrameError) → (Fault f ≡ Fault TooLong → ⊥) → Breaks most u b f
    → Breaks other u b f
breaks_too most other u b NotObject short is = is
breaks_too most other u b TooDeep short is = is
breaks_too most other u b TooLong short is = absurd (short refl)
breaks_too most other u b NoMemory short is = absurd is

parts_too : {most other : ℕ} (ps : List Part) → most ≤ other → All (IsPart most) ps → All (IsPart other) ps
parts_too {most} {other} [] le is = All-nil (IsPart other)
parts_too {most} {other} (Space b ∷ ps) le is =
    All-cons (IsPart other) (Space b) ps (All-head (IsPart most) (Space b) ps is)
    (parts_too ps le (All-tail (IsPart most) (Space b) ps is))
parts_too {most} {other} (Object o ∷ ps) le is =
    All-cons (IsPart other) (Object o) ps (object_too o le (All-head (IsPart most) (Object o) ps is))
    (parts_too ps le (All-tail (IsPart most) (Object o) ps is))

ends_too : (most other : ℕ) (r : List ℕ) (ending : Ending) → most ≤ other → (ending ≡ Fault TooLong → ⊥)
    → EndsAs most r ending → EndsAs other r ending
ends_too most other r (Rest s) le short is = (is.0, unfinished_too r le is.1)
ends_too most other r (Fault f) le short is = record {
  before = is.before;
  byte = is.byte;
  more = is.more;
  whole = is.whole;
  unfinished = unfinished_too is.before le is.unfinished;
  breaks = breaks_too most other is.before is.byte f short is.breaks;
}

-- without a message that is too long the frames are the same
pub frames_too : {most other : ℕ} (stream : List ℕ) (found : List (List ℕ)) (ending : Ending) → most ≤ other
    → AreFrames most stream found ending → (ending ≡ Fault TooLong → ⊥) → AreFrames other stream found ending
frames_too {most} {other} stream found ending le is short = record {
  parts = is.parts;
  rest = is.rest;
  whole = is.whole;
  each = parts_too is.parts le is.each;
  found_are = is.found_are;
  ends = ends_too most other is.rest ending le short is.ends;
}

-- in any case those of the lesser limit are the first
pub frames_first : {most other : ℕ} (stream : List ℕ) (found others : List (List ℕ)) (ending later : Ending) → most ≤ other
    → AreFrames most stream found ending → AreFrames other stream others later
    → (more : List (List ℕ)) × (others ≡ found ++ more)
frames_first {most} {other} stream found others ending later le is wide =
    let front : AreFrames other (joined is.parts) found (Rest []) = record {
      parts = is.parts;
      rest = [];
      whole = sym (append-nil (joined is.parts));
      each = parts_too is.parts le is.each;
      found_are = is.found_are;
      ends = (refl, nothing);
    } in
    let left : (more : List (List ℕ)) × (end : Ending) × AreFrames other is.rest more end = each is.rest in
    let whole = cut (joined is.parts) is.rest found left.0 [] left.1 front left.2 in (
      left.0,
      (once stream others (found ++ left.0) later left.1 wide
          (subst (λ (l : List ℕ). AreFrames other l (found ++ left.0) left.1) (sym is.whole) whole)).0,
    )

-- two framers that were fed the same
pub framers_tell_same : {most other : ℕ} (first second : List Call) (new now another later : Framing) → most ≤ other
    → IsNew most new → Leads first new now → IsNew other another → Leads second another later → fed first ≡ fed second
    → (now.ending ≡ Fault TooLong → ⊥)
    → (taken first ++ now.waiting ≡ taken second ++ later.waiting) × (now.ending ≡ later.ending)
framers_tell_same {most} {other} first second new now another later le is leads is_too leads_too same short =
    let one = (calls_from_new first new now is leads).0 in
    let two = (calls_from_new second another later is_too leads_too).0 in
    once (fed first) (taken first ++ now.waiting) (taken second ++ later.waiting) now.ending later.ending
    (frames_too (fed first) (taken first ++ now.waiting) now.ending le one short)
    (subst (λ (l : List ℕ). AreFrames other l (taken second ++ later.waiting) later.ending) (sym same) two)
