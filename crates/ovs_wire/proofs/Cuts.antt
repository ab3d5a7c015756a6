-- Streams one after another.
use Rattle.std.specs.List.{concat}
use Rattle.std.proofs.Common.{All, ◌≡◌, ℕ, ◌<◌, inl, inr, List, [], ◌∷◌, ◌++◌, refl, ap, sym, ◌∙◌, subst, append_assoc, arith}
use Rattle.std.proofs.lemmas.List.{append-nil}
use Rattle.std.proofs.Math.Seq.{take-nil}
use Rattle.std.proofs.lemmas.List.Elements.{All-append, All-nil, All-cons, All-head, All-tail}
use Rattle.ovs_wire.specs.declared.error.FrameError.{FrameError}
use Rattle.ovs_wire.specs.Frames.{Part, Space, Object, IsPart, IsSpace, IsObject, bytes_of, joined, objects, Ending, Rest, Fault, EndsAs, AreFrames, IsUnfinished, HasFault}
use Rattle.ovs_wire.specs.Framing.{Framing, IsNew, FeedsAfter, Feeds, Takes, Follows}

pub joined-append : (ps qs : List Part) → joined (ps ++ qs) ≡ joined ps ++ joined qs
joined-append [] qs = refl
joined-append (p ∷ ps) qs = ap (λ l. bytes_of p ++ l) (joined-append ps qs) ∙ sym
    (append_assoc (bytes_of p) (joined ps) (joined qs))

pub objects-append : (ps qs : List Part) → objects (ps ++ qs) ≡ objects ps ++ objects qs
objects-append [] qs = refl
objects-append (Space b ∷ ps) qs = objects-append ps qs
objects-append (Object o ∷ ps) qs = ap (λ l. o ∷ l) (objects-append ps qs)

pub cut : {most : ℕ} (x y : List ℕ) (first second : List (List ℕ)) (left : List ℕ) (ending : Ending)
    → AreFrames most x first (Rest left) → AreFrames most (left ++ y) second ending
    → AreFrames most (x ++ y) (first ++ second) ending
cut {most} x y first second left ending a b =
    let split : x ++ y ≡ joined a.parts ++ (left ++ y) =
    ap (λ l. l ++ y) (a.whole ∙ ap (λ r. joined a.parts ++ r) a.ends.0) ∙ append_assoc (joined a.parts)
    left y in
    record {
      parts = a.parts ++ b.parts;
      rest = b.rest;
      whole = split ∙ ap (λ l. joined a.parts ++ l) b.whole ∙ sym
          (append_assoc (joined a.parts) (joined b.parts) b.rest) ∙ ap (λ l. l ++ b.rest)
          (sym (joined-append a.parts b.parts));
      each = All-append (IsPart most) a.parts b.parts a.each b.each;
      found_are = objects-append a.parts b.parts ∙ ap (λ l. l ++ objects b.parts) a.found_are ∙ ap
          (λ l. first ++ l) b.found_are;
      ends = b.ends;
    }

pub fault_on : {most : ℕ} (x y : List ℕ) (found : List (List ℕ)) (f : FrameError) → AreFrames most x found (Fault f)
    → AreFrames most (x ++ y) found (Fault f)
fault_on x y found f a =
    let h = a.ends in
    record {
      parts = a.parts;
      rest = a.rest ++ y;
      whole = ap (λ l. l ++ y) a.whole ∙ append_assoc (joined a.parts) a.rest y;
      each = a.each;
      found_are = a.found_are;
      ends = record {
        before = h.before;
        byte = h.byte;
        more = h.more ++ y;
        whole = ap (λ l. l ++ y) h.whole ∙ append_assoc h.before (h.byte ∷ h.more) y;
        unfinished = h.unfinished;
        breaks = h.breaks;
      };
    }

-- a stream of which no part is whole
nothing_found : {most : ℕ} (r : List ℕ) (ending : Ending) → EndsAs most r ending → AreFrames most r [] ending
nothing_found {most} r ending ends = record { parts = []; rest = r; whole = refl; each = All-nil (IsPart most); found_are = refl; ends = ends }

pub only_rest : {most : ℕ} (r : List ℕ) → IsUnfinished most r → AreFrames most r [] (Rest r)
only_rest r u = nothing_found r (Rest r) (refl, u)

pub only_fault : {most : ℕ} (r : List ℕ) (f : FrameError) → HasFault most r f → AreFrames most r [] (Fault f)
only_fault r f h = nothing_found r (Fault f) h

pub nothing : {most : ℕ} → IsUnfinished most []
nothing = record {
  begun = record { begins = λ lt. absurd (omega arith); inside = λ k more le. absurd (omega arith) };
  limits = record { nests = λ k. rw take-nil (omega arith); fits = omega arith };
}

-- white space is below the brackets
pub no_space : (b : ℕ) → 32 < b → IsSpace b → ⊥
no_space b above (inl e) = omega (arith, e)
no_space b above (inr (inl e)) = omega (arith, e)
no_space b above (inr (inr (inl e))) = omega (arith, e)
no_space b above (inr (inr (inr e))) = omega (arith, e)

pub only_space : {most : ℕ} (b : ℕ) → IsSpace b → AreFrames most (b ∷ []) [] (Rest [])
only_space {most} b blank = record {
  parts = Space b ∷ [];
  rest = [];
  whole = refl;
  each =
      All-cons (IsPart most) (Space b) [] blank (All-nil (IsPart most));
  found_are = refl;
  ends = (refl, nothing);
}

pub only_object : {most : ℕ} (o : List ℕ) → IsObject most o → AreFrames most o (o ∷ []) (Rest [])
only_object {most} o is = record {
  parts = Object o ∷ [];
  rest = [];
  whole = simp append-nil;
  each =
      All-cons (IsPart most) (Object o) [] is (All-nil (IsPart most));
  found_are = refl;
  ends = (refl, nothing);
}

-- white space alone
pub spaces_only : {most : ℕ} (s : List ℕ) → All IsSpace s → AreFrames most s [] (Rest [])
spaces_only [] spaces = only_rest [] nothing
spaces_only (b ∷ s) spaces = cut (b ∷ []) s [] [] [] (Rest []) (only_space b (All-head IsSpace b s spaces))
    (spaces_only s (All-tail IsSpace b s spaces))

-- feeding a piece to what follows the stream, by how the stream ended before
follows_after : {most : ℕ} (stream piece : List ℕ) (taken : List (List ℕ)) (ending : Ending) (old new : Framing)
    → AreFrames most stream (taken ++ old.waiting) ending → old.limit ≡ most → ending ≡ old.ending
    → FeedsAfter ending old piece new → Follows most (stream ++ piece) taken new
follows_after {most} stream piece taken (Rest left) old new before limit is feeds =
    let whole = cut stream piece (taken ++ old.waiting) feeds.found left new.ending before
    (subst (λ (n : ℕ). AreFrames n (left ++ piece) feeds.found new.ending) limit feeds.frames) in (
      subst (λ (l : List (List ℕ)). AreFrames most (stream ++ piece) l new.ending)
          (append_assoc taken old.waiting feeds.found ∙ ap (λ l. taken ++ l) (sym feeds.waiting)) whole,
      feeds.limit ∙ limit,
    )
follows_after {most} stream piece taken (Fault fault) old new before limit is feeds =
    subst (λ (n : Framing). Follows most (stream ++ piece) taken n) (sym feeds) (
      subst (λ (e : Ending). AreFrames most (stream ++ piece) (taken ++ old.waiting) e) is
          (fault_on stream piece (taken ++ old.waiting) fault before),
      limit,
    )

pub follows : {most : ℕ} (stream piece : List ℕ) (taken : List (List ℕ)) (old new : Framing)
    → Follows most stream taken old → Feeds old piece new → Follows most (stream ++ piece) taken new
follows stream piece taken old new before feeds =
    follows_after stream piece taken old.ending old new before.0 before.1 refl feeds

-- nothing has come
pub follows_none : {most : ℕ} (new : Framing) → IsNew most new → Follows most [] [] new
follows_none {most} new is = (
  subst (λ (l : List (List ℕ)). AreFrames most [] l new.ending) (sym is.0)
      (subst (λ (e : Ending). AreFrames most [] [] e) (sym is.1) (only_rest [] nothing)),
  is.2,
)

-- the first message that waits is taken
pub follows_taken : {most : ℕ} (stream message : List ℕ) (taken : List (List ℕ)) (old new : Framing)
    → Follows most stream taken old → Takes old message new → Follows most stream (taken ++ message ∷ []) new
follows_taken {most} stream message taken old new before takes = (
  subst (λ (e : Ending). AreFrames most stream ((taken ++ message ∷ []) ++ new.waiting) e) (sym takes.1)
      (subst (λ (l : List (List ℕ)). AreFrames most stream l old.ending)
      (ap (λ l. taken ++ l) takes.0 ∙ sym (append_assoc taken (message ∷ []) new.waiting)) before.0),
  takes.2 ∙ before.1,
)

-- objects one after another
pub only_objects : {most : ℕ} (found : List (List ℕ)) → All (IsObject most) found → AreFrames most (concat found) found (Rest [])
only_objects [] each = only_rest [] nothing
only_objects {most} (o ∷ os) each = cut o (concat os) (o ∷ []) os [] (Rest [])
    (only_object o (All-head (IsObject most) o os each)) (only_objects os (All-tail (IsObject most) o os each))
