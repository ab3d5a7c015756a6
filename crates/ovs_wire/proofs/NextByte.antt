-- One more byte of a stream.
use Rattle.std.proofs.Common.{◌≡◌, ℕ, ◌+◌, ◌-◌, ◌<◌, ◌≤◌, List, [], ◌∷◌, ◌++◌, length, take, drop, get_or, slice_index, refl, ap, sym, ◌∙◌, subst, arith, ⊎_elim, length-append}
use Rattle.std.proofs.lemmas.List.{take_more, take-append-le, take_all, drop-append-le, take-append-drop, length-take-le, append-nil, drop_all, length-take}
use Rattle.std.proofs.Math.Seq.{take-length}
use Rattle.std.proofs.lemmas.Bool.{cases_lt}
use Rattle.ovs_wire.specs.declared.error.FrameError.{FrameError}
use Rattle.ovs_wire.specs.Limits.{most_nesting}
use Rattle.std.proofs.lemmas.Grind.{common_steps}
use Rattle.ovs_wire.specs.declared.framing.scan_position.ScanPosition.{ScanPosition}
use Rattle.ovs_wire.specs.Depth.{depth}
use Rattle.ovs_wire.specs.ScanPosition.{place_after}
use Rattle.ovs_wire.proofs.Depths.{by_one}
use Rattle.ovs_wire.specs.Frames.{IsSpace, IsObject, IsUnfinished, IsWithinLimits, HasFault, Breaks, Ending, Rest, Fault, AreFrames}
use Rattle.ovs_wire.proofs.Cuts.{cut, fault_on, only_rest, only_fault, only_space, only_object}

-- a property of the beginnings of a list, at one more byte
front_more : (P : List ℕ → Type 0) (u : List ℕ) (b k : ℕ) → (k ≤ length u → P (take k u)) → P (u ++ b ∷ [])
    → P (take k (u ++ b ∷ []))
front_more P u b k low here = ⊎_elim
    (λ (h : k < length u + 1). subst P (sym (take-append-le k u (b ∷ []) (omega arith))) (low (omega arith)))
    (λ (h : length u + 1 ≤ k). subst P
    (sym (take_all k (u ++ b ∷ []) (omega (arith, length-append u (b ∷ []))))) here)
    (cases_lt k (length u + 1))

head_more : (u : List ℕ) (b : ℕ) → (0 < length u → slice_index u 0 ≡ 123) → (length u ≡ 0 → b ≡ 123)
    → slice_index (u ++ b ∷ []) 0 ≡ 123
head_more [] b low here = here refl
head_more (a ∷ u) b low here = low (omega arith)

-- within the limits with one more byte too
limits_more : {most : ℕ} (u : List ℕ) (b : ℕ) → IsWithinLimits most u → depth (u ++ b ∷ []) ≤ most_nesting
    → length u < most → IsWithinLimits most (u ++ b ∷ [])
limits_more u b is low short = record {
  nests = λ k. front_more (λ (l : List ℕ). depth l ≤ most_nesting) u b k (λ h. is.nests k) low;
  fits = omega (arith, length-append u (b ∷ []));
}

pub unfinished_more : {most : ℕ} (u : List ℕ) (b : ℕ) → IsUnfinished most u → (length u ≡ 0 → b ≡ 123)
    → 0 < depth (u ++ b ∷ []) → depth (u ++ b ∷ []) ≤ most_nesting → length u < most
    → IsUnfinished most (u ++ b ∷ [])
unfinished_more u b is head deep low short = record {
  begun = record {
    begins = λ _. head_more u b is.begun.begins head;
    inside = λ k more le. front_more (λ (l : List ℕ). 0 < depth l) u b k (λ h. is.begun.inside k more h) deep;
  };
  limits = limits_more u b is.limits low short;
}

pub object_whole : {most : ℕ} (u : List ℕ) (b : ℕ) → IsUnfinished most u → (length u ≡ 0 → b ≡ 123) → depth (u ++ b ∷ []) ≡ 0
    → length u < most → IsObject most (u ++ b ∷ [])
object_whole u b is head deep short = record {
  balanced = record {
    begins = (omega (arith, length-append u (b ∷ [])), head_more u b is.begun.begins head);
    ends = deep;
    inside = λ k more lt. let le : k ≤ length u =
        omega (arith, length-append u (b ∷ [])) in subst (λ (l : List ℕ). 0 < depth l)
        (sym (take-append-le k u (b ∷ []) le)) (is.begun.inside k more le);
  };
  limits = limits_more u b is.limits (omega (arith, deep)) short;
}

pub faulty : {most : ℕ} (u : List ℕ) (b : ℕ) (f : FrameError) → IsUnfinished most u → Breaks most u b f → HasFault most (u ++ b ∷ []) f
faulty u b f is breaks = record {
  before = u;
  byte = b;
  more = [];
  whole = refl;
  unfinished = is;
  breaks =
      breaks;
}

-- what stands between start and i, with the next byte
pub current_more : (bytes : List ℕ) (start i : ℕ) → start ≤ i → i < length bytes
    → drop start (take (i + 1) bytes) ≡ drop start (take i bytes) ++ get_or bytes i 0 ∷ []
current_more bytes start i le lt = ap (drop start) (take_more bytes i 0 lt) ∙ drop-append-le start
    (take i bytes) (get_or bytes i 0 ∷ []) (omega (arith, length-take-le i bytes (omega arith)))

-- the stream from first on, with one more byte
more : {most : ℕ} (bytes : List ℕ) (first i : ℕ) (found found' : List (List ℕ)) (current : List ℕ) (ending : Ending)
    → first ≤ i → i < length bytes → AreFrames most (drop first (take i bytes)) found (Rest current)
    → AreFrames most (current ++ get_or bytes i 0 ∷ []) found' ending
    → AreFrames most (drop first (take (i + 1) bytes)) (found ++ found') ending
more {most} bytes first i found found' current ending le lt a b =
    subst (λ (l : List ℕ). AreFrames most l (found ++ found') ending) (sym (current_more bytes first i le lt))
    (cut (drop first (take i bytes)) (get_or bytes i 0 ∷ []) found found' current ending a b)

pub unfinished_now : {most : ℕ} (x : List ℕ) (found : List (List ℕ)) (r : List ℕ) → AreFrames most x found (Rest r)
    → IsUnfinished most r
unfinished_now {most} x found r a = subst (IsUnfinished most) a.ends.0 a.ends.1

-- what stands from first on, with all that is still to come
all_from : (bytes : List ℕ) (first i : ℕ) → first ≤ i → i ≤ length bytes
    → drop first (take i bytes) ++ drop i bytes ≡ drop first bytes
all_from bytes first i le short =
    sym (drop-append-le first (take i bytes) (drop i bytes) (omega (arith, length-take-le i bytes short)))
    ∙ ap (drop first) (take-append-drop i bytes)

fault_now : {most : ℕ} (bytes : List ℕ) (first i : ℕ) (found : List (List ℕ)) (f : FrameError) → first ≤ i → i ≤ length bytes
    → AreFrames most (drop first (take i bytes)) found (Fault f) → AreFrames most (drop first bytes) found (Fault f)
fault_now {most} bytes first i found f le short a =
    subst (λ (l : List ℕ). AreFrames most l found (Fault f)) (all_from bytes first i le short)
    (fault_on (drop first (take i bytes)) (drop i bytes) found f a)

length_current : (bytes : List ℕ) (start i : ℕ) → start ≤ i → i ≤ length bytes
    → length (drop start (take i bytes)) ≡ i - start
length_current bytes start i le short = grind (arith, common_steps)

current_none : (bytes : List ℕ) (i : ℕ) → drop i (take i bytes) ≡ []
current_none bytes i = drop_all i (take i bytes) (omega (arith, length-take i bytes))

-- where a scan stands before byte i, of a stream that begins at first, where a message may have `most` bytes
pub record Stands (most : ℕ) (bytes : List ℕ) (first i start : ℕ) (found : List (List ℕ)) (p : ScanPosition) : Type 0 where
  pub behind : first ≤ start
  pub within : start ≤ i
  pub frames : AreFrames most (drop first (take i bytes)) found (Rest (drop start (take i bytes)))
  pub place : p ≡ place_after (drop start (take i bytes))

pub stands_space : {most : ℕ} (bytes : List ℕ) (first i start : ℕ) (found : List (List ℕ)) (p : ScanPosition)
    → Stands most bytes first i start found p → i < length bytes → start ≡ i → IsSpace (get_or bytes i 0)
    → Stands most bytes first (i + 1) (i + 1) found p
stands_space {most} bytes first i start found p s lt same blank =
    let here : drop start (take i bytes) ≡ [] = ap (λ k. drop k (take i bytes)) same ∙ current_none bytes i in
    let none = current_none bytes (i + 1) in
    let next : AreFrames most (drop first (take (i + 1) bytes)) (found ++ []) (Rest []) =
    more bytes first i found [] [] (Rest []) (omega (arith, s.behind, s.within)) lt
    (subst (λ (l : List ℕ). AreFrames most (drop first (take i bytes)) found (Rest l)) here s.frames)
    (only_space (get_or bytes i 0) blank) in
    record {
      behind = omega (arith, s.behind, s.within);
      within = omega arith;
      frames = subst (λ (l : List ℕ). AreFrames most (drop first (take (i + 1) bytes)) found (Rest l)) (sym none)
          (simp append-nil at next);
      place = s.place ∙ ap place_after here ∙ ap place_after (sym none);
    }

-- what this byte makes of each place
abbrev pub Next : ScanPosition → ℕ → ScanPosition → Type 0
Next p b q = (before : List ℕ) → p ≡ place_after before → q ≡ place_after (before ++ b ∷ [])

pub stands_more : {most : ℕ} (bytes : List ℕ) (first i start : ℕ) (found : List (List ℕ)) (p q : ScanPosition)
    → Stands most bytes first i start found p → i < length bytes → (i - start ≡ 0 → get_or bytes i 0 ≡ 123)
    → Next p (get_or bytes i 0) q → 0 < q.depth → q.depth ≤ most_nesting → i - start < most
    → Stands most bytes first (i + 1) start found q
stands_more {most} bytes first i start found p q s lt head next deep low short =
    let u = drop start (take i bytes) in
    let b = get_or bytes i 0 in
    let len = length_current bytes start i s.within (omega arith) in
    let now = next u s.place in
    let d : q.depth ≡ depth (u ++ b ∷ []) = ap (λ a. a.depth) now in
    let is = unfinished_more u b (unfinished_now (drop first (take i bytes)) found u s.frames)
    (λ none. head (omega (arith, none, len))) (omega (arith, d, deep)) (omega (arith, d, low))
    (omega (arith, len, short)) in
    let grown = current_more bytes start i s.within lt in
    let frames : AreFrames most (drop first (take (i + 1) bytes)) (found ++ []) (Rest (u ++ b ∷ [])) =
    more bytes first i found [] u (Rest (u ++ b ∷ [])) (omega (arith, s.behind, s.within)) lt s.frames
    (only_rest (u ++ b ∷ []) is) in
    record {
      behind = s.behind;
      within = omega (arith, s.within);
      frames = subst (λ (l : List ℕ). AreFrames most (drop first (take (i + 1) bytes)) found (Rest l)) (sym grown)
          (simp append-nil at frames);
      place = now ∙ ap place_after (sym grown);
    }

pub stands_whole : {most : ℕ} (bytes : List ℕ) (first i start : ℕ) (found : List (List ℕ)) (p q : ScanPosition) (o : List ℕ)
    → Stands most bytes first i start found p → i < length bytes → (i - start ≡ 0 → get_or bytes i 0 ≡ 123)
    → Next p (get_or bytes i 0) q → q.depth ≡ 0 → i - start < most
    → o ≡ drop start (take (i + 1) bytes) → Stands most bytes first (i + 1) (i + 1) (found ++ o ∷ []) (place_after [])
stands_whole {most} bytes first i start found p q o s lt head next deep short whole =
    let u = drop start (take i bytes) in
    let b = get_or bytes i 0 in
    let len = length_current bytes start i s.within (omega arith) in
    let now = next u s.place in
    let d : q.depth ≡ depth (u ++ b ∷ []) = ap (λ a. a.depth) now in
    let is = object_whole u b (unfinished_now (drop first (take i bytes)) found u s.frames)
    (λ none. head (omega (arith, none, len))) (sym d ∙ deep) (omega (arith, len, short)) in
    let o_is : u ++ b ∷ [] ≡ o = sym (whole ∙ current_more bytes start i s.within lt) in
    let none = current_none bytes (i + 1) in
    let frames : AreFrames most (drop first (take (i + 1) bytes)) (found ++ (u ++ b ∷ []) ∷ []) (Rest []) =
    more bytes first i found ((u ++ b ∷ []) ∷ []) u (Rest []) (omega (arith, s.behind, s.within)) lt s.frames
    (only_object (u ++ b ∷ []) is) in
    record {
      behind = omega (arith, s.behind, s.within);
      within = omega arith;
      frames = subst (λ (l : List ℕ). AreFrames most (drop first (take (i + 1) bytes)) (found ++ o ∷ []) (Rest l)) (sym none)
          (subst (λ (m : List ℕ). AreFrames most (drop first (take (i + 1) bytes)) (found ++ m ∷ []) (Rest [])) o_is frames);
      place = ap place_after (sym none);
    }

pub stands_fault : {most : ℕ} (bytes : List ℕ) (first i start : ℕ) (found : List (List ℕ)) (p : ScanPosition) (f : FrameError)
    → Stands most bytes first i start found p → i < length bytes
    → ((before : List ℕ) → IsUnfinished most before → length before ≡ i - start → p ≡ place_after before
    → Breaks most before (get_or bytes i 0) f) → AreFrames most (drop first bytes) found (Fault f)
stands_fault {most} bytes first i start found p f s lt breaks =
    let u = drop start (take i bytes) in
    let b = get_or bytes i 0 in
    let is = unfinished_now (drop first (take i bytes)) found u s.frames in
    let le : first ≤ i = omega (arith, s.behind, s.within) in
    let h = faulty u b f is (breaks u is (length_current bytes start i s.within (omega arith)) s.place) in
    let frames : AreFrames most (drop first (take (i + 1) bytes)) (found ++ []) (Fault f) =
    more bytes first i found [] u (Fault f) le lt s.frames (only_fault (u ++ b ∷ []) f h) in
    fault_now bytes first (i + 1) found f (omega arith) (omega arith) (simp append-nil at frames)

pub nests_now : {most : ℕ} (u : List ℕ) → IsUnfinished most u → depth u ≤ most_nesting
nests_now u is = subst (λ (l : List ℕ). depth l ≤ most_nesting) (take-length u) (is.limits.nests (length u))

some_before : (u : List ℕ) (b : ℕ) → most_nesting < depth (u ++ b ∷ []) → 0 < length u
some_before [] b deep = absurd (omega (arith, by_one [] b, deep))
some_before (a ∷ u) b deep = omega arith

-- only place_after a byte, and one too many
pub deeper : {most : ℕ} (u : List ℕ) (b : ℕ) → IsUnfinished most u → most_nesting < depth (u ++ b ∷ [])
    → (0 < length u) × (depth (u ++ b ∷ []) ≡ most_nesting + 1)
deeper u b is deep = (some_before u b deep, omega (arith, by_one u b, nests_now u is, deep))

pub depth_now : {most : ℕ} (bytes : List ℕ) (first i start : ℕ) (found : List (List ℕ)) (p : ScanPosition)
    → Stands most bytes first i start found p → p.depth ≤ most_nesting
depth_now bytes first i start found p s =
    let u = drop start (take i bytes) in
    omega (arith, ap (λ a. a.depth) s.place, nests_now u (unfinished_now (drop first (take i bytes)) found u s.frames))
