-- Balanced bytes above the limits.
use Rattle.std.proofs.Common.{◌≡◌, ℕ, zero, suc, ◌+◌, ◌-◌, ◌<◌, ◌≤◌, ◌⊎◌, ⊎_elim, inl, inr, List, [], ◌∷◌, ◌++◌, length, take, drop, get_or, sym, ap, ◌∙◌, subst, arith, add-one, append_assoc, length-append}
use Rattle.std.proofs.lemmas.Bool.{cases_lt}
use Rattle.std.proofs.lemmas.List.{take_more, take_all, take-append-drop, length-take-le, take-append-le}
use Rattle.std.proofs.Math.Seq.{take-length}
use Rattle.ovs_wire.specs.declared.error.FrameError.{FrameError}
use Rattle.ovs_wire.specs.declared.error.FrameError.TheVariants.{TooDeep, TooLong}
use Rattle.ovs_wire.specs.Limits.{most_nesting}
use Rattle.ovs_wire.specs.Depth.{depth}
use Rattle.ovs_wire.specs.Frames.{IsBalanced, IsObject, IsUnfinished, IsTooLarge, HasFault, Breaks, AreFrames, Fault}
use Rattle.ovs_wire.proofs.Cuts.{nothing, only_fault}
use Rattle.ovs_wire.proofs.NextByte.{unfinished_more, object_whole, deeper}

-- a fault at the byte after the first k
fault_after : {most : ℕ} (o : List ℕ) (k : ℕ) (f : FrameError) → k < length o → IsUnfinished most (take k o)
    → Breaks most (take k o) (get_or o k 0) f → HasFault most o f
fault_after o k f lt is breaks = record {
  before = take k o;
  byte = get_or o k 0;
  more = drop (k + 1) o;
  whole = sym (take-append-drop (k + 1) o) ∙ ap (λ l. l ++ drop (k + 1) o) (take_more o k 0 lt) ∙ append_assoc
      (take k o) (get_or o k 0 ∷ []) (drop (k + 1) o);
  unfinished = is;
  breaks = breaks;
}

-- one byte further within the limits of length
one_more : {most : ℕ} (o : List ℕ) (k : ℕ) → IsBalanced o → k + 1 < length o → k < most → IsUnfinished most (take k o)
    → IsUnfinished most (take (k + 1) o) ⊎ HasFault most o TooDeep
one_more {most} o k is lt short unfinished =
    let b = get_or o k 0 in
    let next : take (k + 1) o ≡ take k o ++ b ∷ [] = take_more o k 0 (omega arith) in
    let len : length (take k o) ≡ k = length-take-le k o (omega arith) in
    ⊎_elim
    (λ (deep : most_nesting < depth (take k o ++ b ∷ [])).
    inr (fault_after o k TooDeep (omega arith) unfinished (deeper (take k o) b unfinished deep)))
    (λ (low : depth (take k o ++ b ∷ []) ≤ most_nesting).
    inl (subst (IsUnfinished most) (sym next)
    (unfinished_more (take k o) b unfinished
    (λ none. ap (λ i. get_or o i 0) (omega (arith, len, none)) ∙ is.begins.1)
    (subst (λ (l : List ℕ). 0 < depth l) next (is.inside (k + 1) (omega arith) lt)) low (omega (arith, len, short)))))
    (cases_lt most_nesting (depth (take k o ++ b ∷ [])))

up_to : {most : ℕ} (o : List ℕ) (k : ℕ) → IsBalanced o → k < length o → k ≤ most
    → IsUnfinished most (take k o) ⊎ HasFault most o TooDeep
up_to o zero is lt short = inl nothing
up_to {most} o (suc k) is lt short = ⊎_elim
    (λ (unfinished : IsUnfinished most (take k o)).
    subst (λ (i : ℕ). IsUnfinished most (take i o) ⊎ HasFault most o TooDeep) (add-one k)
    (one_more o k is (omega arith) (omega arith) unfinished))
    (λ (deep : HasFault most o TooDeep). inr deep) (up_to o k is (omega arith) (omega arith))

-- a place that is too deep, with no more bytes before it than the limit
deep_after : {most : ℕ} (o : List ℕ) (k : ℕ) → IsBalanced o → k < length o → k ≤ most
    → most_nesting < depth (take (k + 1) o) → HasFault most o TooDeep
deep_after {most} o k is lt short deep = ⊎_elim
    (λ (unfinished : IsUnfinished most (take k o)).
    fault_after o k TooDeep lt unfinished (deeper (take k o) (get_or o k 0) unfinished
    (subst (λ (l : List ℕ). most_nesting < depth l) (take_more o k 0 lt) deep)))
    (λ (h : HasFault most o TooDeep). h) (up_to o k is lt short)

deep_at : {most : ℕ} (o : List ℕ) (k : ℕ) → IsBalanced o → k ≤ length o → k ≤ most + 1
    → most_nesting < depth (take k o) → HasFault most o TooDeep
deep_at o zero is le short deep = absurd (omega arith)
deep_at o (suc k) is le short deep = deep_after o k is (omega arith) (omega arith)
    (subst (λ (i : ℕ). most_nesting < depth (take i o)) (sym (add-one k)) deep)

pub too_deep : {most : ℕ} (o : List ℕ) (k : ℕ) → IsBalanced o → k ≤ most + 1 → most_nesting < depth (take k o)
    → AreFrames most o [] (Fault TooDeep)
too_deep o k is short deep = only_fault o TooDeep (⊎_elim
    (λ (lt : k < length o). deep_at o k is (omega (arith, lt)) short deep)
    (λ (le : length o ≤ k). absurd (omega (arith, ap depth (take_all k o le), is.ends, deep)))
    (cases_lt k (length o)))

-- the same of bytes within the limit of length, whichever place it is
pub deep_frames : {most : ℕ} (o : List ℕ) (k : ℕ) → IsBalanced o → length o ≤ most → most_nesting < depth (take k o)
    → AreFrames most o [] (Fault TooDeep)
deep_frames o k is fits deep = ⊎_elim
    (λ (lt : k < length o). too_deep o k is (omega (arith, lt, fits)) deep)
    (λ (le : length o ≤ k). absurd (omega (arith, ap depth (take_all k o le), is.ends, deep)))
    (cases_lt k (length o))

-- a fault that is too deep stands at a place that is
deep_place : {most : ℕ} (o : List ℕ) → HasFault most o TooDeep
    → (k : ℕ) × (k ≤ most + 1) × (most_nesting < depth (take k o))
deep_place o h =
    let n = length (h.before ++ h.byte ∷ []) in
    let front : take n o ≡ h.before ++ h.byte ∷ [] =
    ap (take n) (h.whole ∙ sym (append_assoc h.before (h.byte ∷ []) h.more)) ∙ take-append-le n
    (h.before ++ h.byte ∷ []) h.more (omega arith) ∙ take-length (h.before ++ h.byte ∷ []) in (
      n,
      omega (arith, length-append h.before (h.byte ∷ []), h.unfinished.limits.fits),
      omega (arith, ap depth front, h.breaks.1),
    )

-- more bytes than the limit, and no place that is too deep up to the one too many
-- where a message may have no byte, the one too many is its first
first_too_many : (o : List ℕ) (most : ℕ) → IsBalanced o → most < length o → length (take most o) ≡ 0 → get_or o most 0 ≡ 123
first_too_many o most is long none =
    ap (λ i. get_or o i 0) (omega (arith, length-take-le most o (omega (arith, long)), none)) ∙ is.begins.1

long_by : {most : ℕ} (o : List ℕ) → IsBalanced o → most < length o
    → ((k : ℕ) → k ≤ most + 1 → depth (take k o) ≤ most_nesting) → IsUnfinished most (take most o) → HasFault most o TooLong
long_by {most} o is long low unfinished = fault_after o most TooLong long unfinished (
  length-take-le most o (omega arith),
  subst (λ (l : List ℕ). depth l ≤ most_nesting)
      (take_more o most 0 long) (low (most + 1) (omega arith)),
  first_too_many o most is long,
)

pub too_long : {most : ℕ} (o : List ℕ) → IsBalanced o → most < length o
    → ((k : ℕ) → k ≤ most + 1 → depth (take k o) ≤ most_nesting) → AreFrames most o [] (Fault TooLong)
too_long {most} o is long low = only_fault o TooLong (⊎_elim (long_by o is long low)
    (λ (h : HasFault most o TooDeep). let at = deep_place o h in absurd (omega (arith, low at.0 at.1, at.2)))
    (up_to o most is long (omega arith)))

-- the byte that is one too many is one of the two faults
long_either : {most : ℕ} (o : List ℕ) → IsBalanced o → most < length o → IsUnfinished most (take most o) → IsTooLarge most o
long_either {most} o is long unfinished =
    let next : take (most + 1) o ≡ take most o ++ get_or o most 0 ∷ [] = take_more o most 0 long in
    ⊎_elim
    (λ (deep : most_nesting < depth (take (most + 1) o)). inl (deep_after o most is long (omega arith) deep))
    (λ (low : depth (take (most + 1) o) ≤ most_nesting). inr
    (fault_after o most TooLong long unfinished
    (length-take-le most o (omega arith), subst (λ (l : List ℕ). depth l ≤ most_nesting) next low, first_too_many o most is long)))
    (cases_lt most_nesting (depth (take (most + 1) o)))

above : {most : ℕ} (o : List ℕ) → IsBalanced o → most < length o → IsTooLarge most o
above {most} o is long = ⊎_elim (long_either o is long) (λ (h : HasFault most o TooDeep). inl h) (up_to o most is long (omega arith))

-- above the limit of length it is one of the two
pub either : {most : ℕ} (o : List ℕ) → IsBalanced o → most < length o
    → AreFrames most o [] (Fault TooDeep) ⊎ AreFrames most o [] (Fault TooLong)
either {most} o is long = ⊎_elim (λ (h : HasFault most o TooDeep). inl (only_fault o TooDeep h))
    (λ (h : HasFault most o TooLong). inr (only_fault o TooLong h)) (above o is long)

-- within that limit it is an object, or has a place that is too deep
last_byte : {most : ℕ} (o : List ℕ) → IsBalanced o → length o ≤ most → IsUnfinished most (take (length o - 1) o) → IsObject most o
last_byte {most} o is fits unfinished =
    let k = length o - 1 in
    let lt : k < length o = omega (arith, is.begins.0) in
    let one : k + 1 ≡ length o = omega (arith, is.begins.0) in
    let len : length (take k o) ≡ k = length-take-le k o (omega (arith, lt)) in
    let whole : take k o ++ get_or o k 0 ∷ [] ≡ o = sym (take_more o k 0 lt) ∙ ap (λ n. take n o) one ∙ take-length o in
    subst (IsObject most) whole
    (object_whole (take k o) (get_or o k 0) unfinished (λ none. ap (λ i. get_or o i 0) (omega (arith, len, none)) ∙ is.begins.1)
    (ap depth whole ∙ is.ends) (omega (arith, len, lt, fits)))

pub object_or_large : {most : ℕ} (o : List ℕ) → IsBalanced o → IsObject most o ⊎ IsTooLarge most o
object_or_large {most} o is = ⊎_elim
    (λ (long : most < length o). inr (above o is long))
    (λ (fits : length o ≤ most). ⊎_elim
    (λ (unfinished : IsUnfinished most (take (length o - 1) o)). inl (last_byte o is fits unfinished))
    (λ (deep : HasFault most o TooDeep). inr (inl deep))
    (up_to o (length o - 1) is (omega (arith, is.begins.0)) (omega (arith, fits))))
    (cases_lt most (length o))
