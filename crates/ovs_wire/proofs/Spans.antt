-- A scan, and the messages by where they lie.
use Rattle.std.proofs.Common.{Option, ◌≡◌, ℕ, ◌+◌, ◌-◌, ◌<◌, ◌≤◌, List, [], ◌∷◌, ◌++◌, length, take, drop, get_or, refl, ap, sym, ◌∙◌, subst, arith}
use Rattle.std.proofs.lemmas.List.{drop-drop, drop-append-le, take-append-le, drop-take, length-drop}
use Rattle.ovs_wire.specs.declared.error.FrameError.{FrameError}
use Rattle.ovs_wire.specs.declared.framing.scan_position.ScanPosition.{ScanPosition}
use Rattle.ovs_wire.specs.declared.framing.scan.Span.{Span}
use Rattle.ovs_wire.specs.declared.framing.scan.Tail.{Tail}
use Rattle.ovs_wire.specs.Limits.{most_nesting}
use Rattle.ovs_wire.specs.ScanPosition.{place_after}
use Rattle.ovs_wire.specs.Frames.{IsSpace, IsUnfinished, Breaks, AreFrames, Ending, Rest, Fault}
use Rattle.ovs_wire.specs.Framing.{Framing, framing, Feeds, ending_of}
use Rattle.ovs_wire.specs.Spans.{spanned, messages, IsTail}
use Rattle.ovs_wire.proofs.NextByte.{Stands, Next, stands_space, stands_more, stands_whole, stands_fault}

pub spanned-append : (xs ys : List Span) → spanned (xs ++ ys) ≡ spanned xs + spanned ys
spanned-append [] ys = omega arith
spanned-append (x ∷ xs) ys = omega (arith, spanned-append xs ys)

pub messages-append : (xs ys : List Span) (bytes : List ℕ)
    → messages (xs ++ ys) bytes ≡ messages xs bytes ++ messages ys (drop (spanned xs) bytes)
messages-append [] ys bytes = refl
messages-append (x ∷ xs) ys bytes =
    ap (λ l. take x.len (drop x.skip bytes) ∷ l)
    (messages-append xs ys (drop (x.skip + x.len) bytes)
    ∙ ap (λ l. messages xs (drop (x.skip + x.len) bytes) ++ messages ys l)
    (drop-drop (spanned xs) (x.skip + x.len) bytes))

-- more bytes behind the messages change none of them
pub messages_kept : (spans : List Span) (bytes later : List ℕ) → spanned spans ≤ length bytes
    → messages spans (bytes ++ later) ≡ messages spans bytes
messages_kept [] bytes later le = refl
messages_kept (s ∷ spans) bytes later le =
    let first : take s.len (drop s.skip (bytes ++ later)) ≡ take s.len (drop s.skip bytes) =
    ap (take s.len) (drop-append-le s.skip bytes later (omega arith))
    ∙ take-append-le s.len (drop s.skip bytes) later (omega (arith, length-drop s.skip bytes)) in
    let others : messages spans (drop (s.skip + s.len) (bytes ++ later)) ≡ messages spans (drop (s.skip + s.len) bytes) =
    ap (messages spans) (drop-append-le (s.skip + s.len) bytes later (omega arith))
    ∙ messages_kept spans (drop (s.skip + s.len) bytes) later (omega (arith, length-drop (s.skip + s.len) bytes)) in
    cc (first, others)

-- the bytes between start and i, with the next one, as a message cuts them out behind others
cut_next : (bytes : List ℕ) (from found end start i : ℕ) → end ≡ from + found → end ≤ start → start ≤ i
    → take (i - start + 1) (drop (start - end) (drop found (drop from bytes))) ≡ drop start (take (i + 1) bytes)
cut_next bytes from found end start i is le within =
    let low : drop (start - end) (drop found (drop from bytes)) ≡ drop start bytes =
    ap (drop (start - end)) (drop-drop found from bytes) ∙ drop-drop (start - end) (from + found) bytes
    ∙ ap (λ k. drop k bytes) (let e : from + found + (start - end) ≡ start = omega arith in e) in
    let long : start + (i - start + 1) ≡ i + 1 = omega arith in
    ap (take (i - start + 1)) low ∙ sym (drop-take start (i - start + 1) bytes)
    ∙ ap (λ k. drop start (take k bytes)) long

-- where a scan stands that began at the tail, where a message may have `most` bytes
pub record Scans (most : ℕ) (bytes : List ℕ) (tail : Tail) (i : ℕ) (found : List Span) (end start : ℕ) (p : ScanPosition) : Type 0 where
  pub stands : Stands most bytes tail.start i start (messages found (drop tail.end bytes)) p
  pub ends : end ≤ start
  pub whole : end ≡ tail.end + spanned found

pub scans_space : {most : ℕ} (bytes : List ℕ) (tail : Tail) (i : ℕ) (found : List Span) (end start : ℕ) (p : ScanPosition)
    → Scans most bytes tail i found end start p → i < length bytes → start ≡ i → IsSpace (get_or bytes i 0)
    → Scans most bytes tail (i + 1) found end (i + 1) p
scans_space bytes tail i found end start p s lt same blank = record {
  stands = stands_space bytes tail.start i start (messages found (drop tail.end bytes)) p s.stands lt same blank;
  ends = omega (arith, s.ends, same);
  whole = s.whole;
}

pub scans_more : {most : ℕ} (bytes : List ℕ) (tail : Tail) (i : ℕ) (found : List Span) (end start : ℕ) (p q : ScanPosition)
    → Scans most bytes tail i found end start p → i < length bytes → (i - start ≡ 0 → get_or bytes i 0 ≡ 123)
    → Next p (get_or bytes i 0) q → 0 < q.depth → q.depth ≤ most_nesting → i - start < most
    → Scans most bytes tail (i + 1) found end start q
scans_more bytes tail i found end start p q s lt head next deep low short = record {
  stands = stands_more bytes tail.start i start (messages found (drop tail.end bytes)) p q s.stands lt head next deep low short;
  ends = s.ends;
  whole = s.whole;
}

pub scans_whole : {most : ℕ} (bytes : List ℕ) (tail : Tail) (i : ℕ) (found : List Span) (end start : ℕ) (p q : ScanPosition) (span : Span)
    → Scans most bytes tail i found end start p → i < length bytes → (i - start ≡ 0 → get_or bytes i 0 ≡ 123)
    → Next p (get_or bytes i 0) q → q.depth ≡ 0 → i - start < most
    → span ≡ record { skip = start - end; len = i - start + 1 }
    → Scans most bytes tail (i + 1) (found ++ span ∷ []) (i + 1) (i + 1) (place_after [])
scans_whole {most} bytes tail i found end start p q span s lt head next deep short is =
    let behind = drop tail.end bytes in
    let o = take span.len (drop span.skip (drop (spanned found) behind)) in
    let o_is : o ≡ drop start (take (i + 1) bytes) =
    ap (λ (x : Span). take x.len (drop x.skip (drop (spanned found) behind))) is
    ∙ cut_next bytes tail.end (spanned found) end start i s.whole s.ends s.stands.within in
    record {
      stands = subst (λ (l : List (List ℕ)). Stands most bytes tail.start (i + 1) (i + 1) l (place_after []))
          (sym (messages-append found (span ∷ []) behind))
          (stands_whole bytes tail.start i start (messages found behind) p q o s.stands lt head next deep short o_is);
      ends = omega arith;
      whole = omega (arith, spanned-append found (span ∷ []), ap (λ (x : Span). x.skip + x.len) is, s.whole, s.ends, s.stands.within);
    }

pub scans_fault : {most : ℕ} (bytes : List ℕ) (tail : Tail) (i : ℕ) (found : List Span) (end start : ℕ) (p : ScanPosition) (f : FrameError)
    → Scans most bytes tail i found end start p → i < length bytes
    → ((before : List ℕ) → IsUnfinished most before → length before ≡ i - start → p ≡ place_after before
    → Breaks most before (get_or bytes i 0) f)
    → AreFrames most (drop tail.start bytes) (messages found (drop tail.end bytes)) (Fault f)
scans_fault bytes tail i found end start p f s lt breaks =
    stands_fault bytes tail.start i start (messages found (drop tail.end bytes)) p f s.stands lt breaks

pub moved : {most : ℕ} (bytes : List ℕ) (tail : Tail) (i : ℕ) (found found' : List Span) (end end' start start' : ℕ) (p p' : ScanPosition)
    → Scans most bytes tail i found end start p → found' ≡ found → end' ≡ end → start' ≡ start → p' ≡ p
    → Scans most bytes tail i found' end' start' p'
moved {most} bytes tail i found found' end end' start start' p p' s a b c d =
    subst (λ (l : List Span). Scans most bytes tail i l end' start' p') (sym a)
    (subst (λ (k : ℕ). Scans most bytes tail i found k start' p') (sym b)
    (subst (λ (k : ℕ). Scans most bytes tail i found end k p') (sym c)
    (subst (λ (x : ScanPosition). Scans most bytes tail i found end start x) (sym d) s)))

-- ---- feeding

spans_end : (waiting waiting' found : List Span) (taken end end' : ℕ) → end ≡ taken + spanned waiting
    → waiting' ≡ waiting ++ found → end' ≡ end + spanned found → end' ≡ taken + spanned waiting'
spans_end waiting waiting' found taken end end' is more behind =
    omega (arith, ap spanned more, spanned-append waiting found)

-- the buffer holds its messages and its rest with the piece behind them, in which the scan found others
pub tail_moved : {most : ℕ} (now now' : List ℕ) (waiting waiting' found : List Span) (taken end : ℕ) (tail : Tail) → now ≡ now'
    → end ≡ taken + spanned waiting → waiting' ≡ waiting ++ found → IsTail most now tail → tail.end ≡ end + spanned found
    → IsTail most now' tail × (tail.end ≡ taken + spanned waiting')
tail_moved {most} now now' waiting waiting' found taken end tail same is more stands behind = (
  subst (λ (l : List ℕ). IsTail most l tail) same stands,
  spans_end waiting waiting' found taken end tail.end is more behind,
)

adds : {most : ℕ} (buffer piece : List ℕ) (taken : ℕ) (waiting found : List Span) (tail : Tail) (ending : Ending) → IsTail most buffer tail
    → tail.end ≡ taken + spanned waiting
    → AreFrames most (drop tail.start (buffer ++ piece)) (messages found (drop tail.end (buffer ++ piece))) ending
    → Feeds (framing most (messages waiting (drop taken buffer)) (Rest (drop tail.start buffer))) piece
    (framing most (messages (waiting ++ found) (drop taken (buffer ++ piece))) ending)
adds {most} buffer piece taken waiting found tail ending is spans frames =
    let whole = buffer ++ piece in
    let first : messages waiting (drop taken whole) ≡ messages waiting (drop taken buffer) =
    ap (messages waiting) (drop-append-le taken buffer piece (omega (arith, is.ends, is.within, spans)))
    ∙ messages_kept waiting (drop taken buffer) piece
    (omega (arith, is.ends, is.within, spans, length-drop taken buffer)) in
    let others : messages found (drop (spanned waiting) (drop taken whole)) ≡ messages found (drop tail.end whole) =
    ap (messages found) (drop-drop (spanned waiting) taken whole ∙ ap (λ k. drop k whole) (sym spans)) in
    record {
      found = messages found (drop tail.end whole);
      frames = subst (λ (l : List ℕ). AreFrames most l (messages found (drop tail.end whole)) ending)
          (drop-append-le tail.start buffer piece is.within) frames;
      waiting = messages-append waiting found (drop taken whole)
          ∙ ap (λ l. l ++ messages found (drop (spanned waiting) (drop taken whole))) first
          ∙ ap (λ l. messages waiting (drop taken buffer) ++ l) others;
      limit = refl;
    }

pub feeds_on : {most : ℕ} (old : Framing) (buffer piece now now' : List ℕ) (taken : ℕ) (waiting waiting' found : List Span)
    (tail tail' : Tail) (fault : Option FrameError) → IsTail most buffer tail → tail.end ≡ taken + spanned waiting
    → old ≡ framing most (messages waiting (drop taken buffer)) (Rest (drop tail.start buffer))
    → now' ≡ buffer ++ piece → now ≡ now' → waiting' ≡ waiting ++ found
    → AreFrames most (drop tail.start now) (messages found (drop tail.end now)) (ending_of fault (drop tail'.start now))
    → Feeds old piece (framing most (messages waiting' (drop taken now')) (ending_of fault (drop tail'.start now')))
feeds_on {most} old buffer piece now now' taken waiting waiting' found tail tail' fault is spans was grown same more frames =
    subst (λ (o : Framing). Feeds o piece (framing most (messages waiting' (drop taken now')) (ending_of fault (drop tail'.start now')))) (sym was)
    (subst (λ (w : List Span). Feeds (framing most (messages waiting (drop taken buffer)) (Rest (drop tail.start buffer))) piece
    (framing most (messages w (drop taken now')) (ending_of fault (drop tail'.start now')))) (sym more)
    (subst (λ (l : List ℕ). Feeds (framing most (messages waiting (drop taken buffer)) (Rest (drop tail.start buffer))) piece
    (framing most (messages (waiting ++ found) (drop taken l)) (ending_of fault (drop tail'.start l)))) (sym grown)
    (adds buffer piece taken waiting found tail (ending_of fault (drop tail'.start (buffer ++ piece))) is spans
    (subst (λ (l : List ℕ). AreFrames most (drop tail.start l) (messages found (drop tail.end l)) (ending_of fault (drop tail'.start l)))
    (same ∙ grown) frames))))
