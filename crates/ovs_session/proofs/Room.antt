-- How long the messages of a framer may be, after a feed.
use Rattle.std.proofs.Common.{inl, inr, ⊎_elim, ◌≡◌, ℕ, ◌+◌, ◌<◌, ◌≤◌, min, arith, List, [], ◌∷◌, ◌++◌, length, length-append, take, ap, sym, ◌∙◌, append_assoc, subst, refl}
use Rattle.std.specs.Prelude.{All}
use Rattle.std.proofs.lemmas.Bool.{cases_lt}
use Rattle.std.proofs.lemmas.List.{take-append-le, take_all}
use Rattle.std.proofs.lemmas.List.Elements.{All-nil, All-cons, All-head, All-tail, All-drop}
use Rattle.ovs_wire.specs.Depth.{depth}
use Rattle.ovs_wire.specs.Frames.{Ending, Rest, Fault, EndsAs, IsSpace, IsObject, IsUnfinished, Part, Space, Object, IsPart, joined, objects}
use Rattle.ovs_wire.specs.Framing.{Framing, Feeds, FeedsAfter, without_first}
use Rattle.ovs_session.specs.Room.{rest_of, IsOpen, AtMost, HasRoom}

both_at_most : (n k m : ℕ) → n ≤ k → n ≤ m → n ≤ min k m
both_at_most n k m p q = omega arith

first_fits : (n j k m : ℕ) → n ≡ j + k → n ≤ m → j ≤ m
first_fits n j k m e p = omega arith

rest_of_fits : (n j k m : ℕ) → n ≡ j + k → n ≤ m → k ≤ m
rest_of_fits n j k m e p = omega arith

-- no object is longer than the parts together
objects_fit : (limit k : ℕ) (parts : List Part) → All (IsPart limit) parts → length (joined parts) ≤ k → All (AtMost (min k limit)) (objects parts)
objects_fit limit k [] each p = All-nil (AtMost (min k limit))
objects_fit limit k (Space b ∷ parts) each p =
    objects_fit limit k parts (All-tail (IsPart limit) (Space b) parts each)
    (rest_of_fits (length (joined (Space b ∷ parts))) 1 (length (joined parts)) k (length-append (b ∷ []) (joined parts)) p)
objects_fit limit k (Object o ∷ parts) each p =
    let whole = length-append o (joined parts) in
    All-cons (AtMost (min k limit)) o (objects parts)
    (both_at_most (length o) k limit (first_fits (length (o ++ joined parts)) (length o) (length (joined parts)) k whole p) (All-head (IsPart limit) (Object o) parts each).limits.fits)
    (objects_fit limit k parts (All-tail (IsPart limit) (Object o) parts each) (rest_of_fits (length (o ++ joined parts)) (length o) (length (joined parts)) k whole p))

-- what is unfinished begins with no space
no_space : (b : ℕ) → b ≡ 123 → IsSpace b → ⊥
no_space b e (inl p) = omega arith
no_space b e (inr (inl p)) = omega arith
no_space b e (inr (inr (inl p))) = omega arith
no_space b e (inr (inr (inr p))) = omega arith

heads : (a b : ℕ) (xs ys : List ℕ) → a ∷ xs ≡ b ∷ ys → a ≡ b
heads a b xs ys e = cc

-- an object that begins where what is unfinished does ends behind it
ends_behind : {limit : ℕ} (left piece o more : List ℕ) → IsUnfinished limit left → IsObject limit o → left ++ piece ≡ o ++ more → length left ≤ length o
ends_behind left piece o more begun is e = ⊎_elim
    (λ (lt : length left < length o). omega arith)
    (λ (le : length o ≤ length left).
    let same : take (length o) left ≡ o =
    sym (take-append-le (length o) left piece le) ∙ ap (λ (l : List ℕ). take (length o) l) e
    ∙ take-append-le (length o) o more (omega arith) ∙ take_all (length o) o (omega arith) in
    let past = begun.begun.inside (length o) is.balanced.begins.0 le in
    let none : depth (take (length o) left) ≡ 0 = ap depth same ∙ is.balanced.ends in
    absurd (omega (arith, past, none)))
    (cases_lt (length left) (length o))

sums : (l p j r : ℕ) → l + p ≡ j + r → l ≤ j → r ≤ p
sums l p j r e le = omega arith

fits_more : (l o j : ℕ) → l ≤ o → j ≡ o → l ≤ j
fits_more l o j le e = omega arith

at_least : (o j n : ℕ) → n ≡ o + j → o ≤ n
at_least o j n e = omega arith

le_then : (a b c : ℕ) → a ≤ b → b ≤ c → a ≤ c
le_then a b c p q = omega arith

-- where a message became whole, the rest came with the piece
past_left : (limit : ℕ) (left piece : List ℕ) (parts : List Part) (rest : List ℕ) → IsUnfinished limit left → left ++ piece ≡ joined parts ++ rest → All (IsPart limit) parts
    → (objects parts ≡ [] → ⊥) → length left ≤ length (joined parts)
past_left limit [] piece parts rest begun e each some = omega arith
past_left limit (a ∷ left) piece [] rest begun e each some = absurd (some refl)
past_left limit (a ∷ left) piece (Space b ∷ parts) rest begun e each some =
    let first : a ≡ 123 = begun.begun.begins (omega arith) in
    let same : a ≡ b = heads a b (left ++ piece) (joined parts ++ rest) e in
    absurd (no_space b (sym same ∙ first) (All-head (IsPart limit) (Space b) parts each))
past_left limit (a ∷ left) piece (Object o ∷ parts) rest begun e each some =
    le_then (length (a ∷ left)) (length o) (length (o ++ joined parts))
    (ends_behind (a ∷ left) piece o (joined parts ++ rest) begun (All-head (IsPart limit) (Object o) parts each) (e ∙ append_assoc o (joined parts) rest))
    (at_least (length o) (length (joined parts)) (length (o ++ joined parts)) (length-append o (joined parts)))

lengths : (left piece front rest : List ℕ) → left ++ piece ≡ front ++ rest → length left + length piece ≡ length front + length rest
lengths left piece front rest e = sym (length-append left piece) ∙ ap length e ∙ length-append front rest

within : (l p j r k : ℕ) → l + p ≡ j + r → l ≤ k → j ≤ k + p
within l p j r k e le = omega arith

within_rest : (l p j r k : ℕ) → l + p ≡ j + r → l ≤ k → r ≤ k + p
within_rest l p j r k e le = omega arith

ends_fit : (limit k : ℕ) (r : List ℕ) (ending : Ending) → EndsAs limit r ending → length r ≤ k → AtMost (min k limit) (rest_of ending)
ends_fit limit k r (Rest s) h le = subst (AtMost (min k limit)) h.0 (both_at_most (length r) k limit le h.1.limits.fits)
ends_fit limit k r (Fault f) h le = omega arith

ends_short : (limit k : ℕ) (r : List ℕ) (ending : Ending) → EndsAs limit r ending → length r ≤ k → AtMost k (rest_of ending)
ends_short limit k r (Rest s) h le = subst (AtMost k) h.0 le
ends_short limit k r (Fault f) h le = omega arith

ends_open : (limit : ℕ) (r : List ℕ) (ending : Ending) → EndsAs limit r ending → IsOpen limit ending
ends_open limit r (Rest s) h = subst (IsUnfinished limit) h.0 h.1
ends_open limit r (Fault f) h = tt

zero_at_most : (k : ℕ) → AtMost k []
zero_at_most k = omega arith

fed_room : (ending : Ending) (old new : Framing) (piece : List ℕ) (rest : ℕ) → old.ending ≡ ending → FeedsAfter ending old piece new → old.waiting ≡ []
    → IsOpen old.limit ending → AtMost rest (rest_of ending)
    → HasRoom new (min (rest + length piece) old.limit) (min (rest + length piece) old.limit) (length piece)
fed_room (Rest left) old new piece rest is h none begun le =
    let f = h.frames in
    let k = rest + length piece in
    let sum = lengths left piece (joined f.parts) f.rest f.whole in
    let waiting : new.waiting ≡ h.found = h.waiting ∙ ap (λ (l : List (List ℕ)). l ++ h.found) none in
    let fits = objects_fit old.limit k f.parts f.each (within (length left) (length piece) (length (joined f.parts)) (length f.rest) rest sum le) in
    record {
      messages_fit = subst (All (AtMost (min k old.limit))) (f.found_are ∙ sym waiting) fits;
      rest_fits = ends_fit old.limit k f.rest new.ending f.ends (within_rest (length left) (length piece) (length (joined f.parts)) (length f.rest) rest sum le);
      last_fits = λ waits. ends_short old.limit (length piece) f.rest new.ending f.ends
          (sums (length left) (length piece) (length (joined f.parts)) (length f.rest) sum
          (past_left old.limit left piece f.parts f.rest begun f.whole f.each (λ nothing. waits (waiting ∙ sym f.found_are ∙ nothing))));
      open_end = subst (λ (n : ℕ). IsOpen n new.ending) (sym h.limit) (ends_open old.limit f.rest new.ending f.ends);
    }
fed_room (Fault fault) old new piece rest is h none begun le =
    let k = min (rest + length piece) old.limit in
    subst (λ (f : Framing). HasRoom f k k (length piece)) (sym h) (record {
      messages_fit = subst (All (AtMost k)) (sym none) (All-nil (AtMost k));
      rest_fits = subst (λ (e : Ending). AtMost k (rest_of e)) (sym is) (zero_at_most k);
      last_fits = λ waits. absurd (waits none);
      open_end = subst (IsOpen old.limit) (sym is) tt;
    })

-- after a feed, where none waited
pub feeds_room : (old new : Framing) (piece : List ℕ) (most rest before k : ℕ) → HasRoom old most rest before → Feeds old piece new → old.waiting ≡ []
    → k ≡ min (rest + length piece) old.limit → HasRoom new k k (length piece)
feeds_room old new piece most rest before k room h none is =
    subst (λ (n : ℕ). HasRoom new n n (length piece)) (sym is) (fed_room old.ending old new piece rest refl h none room.open_end room.rest_fits)

-- nothing waits in a new framer
pub new_room : (now : Framing) → now.waiting ≡ [] → now.ending ≡ Rest [] → IsUnfinished now.limit [] → HasRoom now 0 0 0
new_room now none empty begun = record {
  messages_fit = subst (All (AtMost 0)) (sym none) (All-nil (AtMost 0));
  rest_fits = subst (λ (e : Ending). AtMost 0 (rest_of e)) (sym empty) (zero_at_most 0);
  last_fits = λ waits. absurd (waits none);
  open_end = subst (IsOpen now.limit) (sym empty) begun;
}

abbrev OnlyMore : List (List ℕ) → Type 0
OnlyMore [] = ⊥
OnlyMore (x ∷ xs) = Unit {0}

waits_for : (waiting : List (List ℕ)) (m : List ℕ) (more : List (List ℕ)) → waiting ≡ m ∷ more → waiting ≡ [] → ⊥
waits_for waiting m more e none = subst OnlyMore (sym e ∙ none) tt

-- the others fit when the first is taken
pub taken_room : (now : Framing) (most rest piece : ℕ) (m : List ℕ) (more : List (List ℕ)) → HasRoom now most rest piece → now.waiting ≡ m ∷ more
    → HasRoom (without_first now) most piece piece
taken_room now most rest piece m more room e =
    let last = room.last_fits (waits_for now.waiting m more e) in
    record { messages_fit = All-drop (AtMost most) 1 now.waiting room.messages_fit; rest_fits = last; last_fits = λ waits. last; open_end = room.open_end }
