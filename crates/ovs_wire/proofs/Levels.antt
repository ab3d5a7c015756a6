-- The levels of a JSON value's tokens, and of the bytes that they are read from.
use Rattle.std.proofs.Common.{◌≡◌, ℕ, zero, suc, ◌+◌, ◌-◌, ◌<◌, ◌≤◌, max, true, List, [], ◌∷◌, ◌++◌, length, take, ◌⊎◌, ⊎_elim, inl, inr, refl, sym, ap, ◌∙◌, subst, arith, append_assoc, append-nil, add-one}
use Rattle.std.proofs.Math.Nat.{le-max_left, le-max_right}
use Rattle.std.proofs.lemmas.Bool.{cases_lt}
use Rattle.json.specs.Token.{Token, string, number, boolean, null}
use Rattle.json.specs.Align.{is_good}
use Rattle.json.specs.Json as json
use Rattle.json.specs.Json.{Json, Items, no_items, item, Members, no_members, member}
use Rattle.json.specs.Tree.{json_tokens, items_tokens, members_tokens, depth, items_depth, members_depth}
use Rattle.ovs_wire.proofs.Depths.{Spot, past, walk}
use Rattle.ovs_wire.proofs.Lexing.{level_past, is_closing, AreSpaces, AreGood, Runs}

-- ---- of tokens

-- no token is a fault, and every level is above 0 but the last, which a bracket closes
abbrev pub Closes : ℕ → List Token → Type 0
Closes n [] = ⊥
Closes n (t ∷ ts) =
    (0 < n) × (is_good t ≡ true) × (((is_closing t ≡ true) × (level_past t n ≡ 0) × (ts ≡ [])) ⊎ Closes (level_past t n) ts)

-- the highest level
abbrev pub peak : ℕ → List Token → ℕ
peak n [] = n
peak n (t ∷ ts) = max n (peak (level_past t n) ts)

one_back : (n : ℕ) → n + 1 - 1 ≡ n
one_back n = omega arith

-- a token that leaves the level, and one that opens and one that closes
flat : (t : Token) (n : ℕ) (ts : List Token) → is_good t ≡ true → level_past t n ≡ n → 0 < n → Closes n ts
    → Closes n (t ∷ ts)
flat t n ts good same above more = (above, good, inr (subst (λ k. Closes k ts) (sym same) more))

mutual
  closes_value : (j : Json) (n : ℕ) (ts : List Token) → 0 < n → Closes n ts → Closes n (json_tokens j ++ ts)
  closes_value json.null n ts above more = flat null n ts refl refl above more
  closes_value (json.boolean b) n ts above more = flat (boolean b) n ts refl refl above more
  closes_value (json.number s) n ts above more = flat (number s) n ts refl refl above more
  closes_value (json.string s) n ts above more = flat (string s) n ts refl refl above more
  closes_value (json.array js) n ts above more = (above, refl, inr (closes_items js n ts above more))
  closes_value (json.object ms) n ts above more = (above, refl, inr (closes_members ms n ts above more))

  closes_items : (js : Items) (n : ℕ) (ts : List Token) → 0 < n → Closes n ts
      → Closes (n + 1) (items_tokens js ++ ts)
  closes_items no_items n ts above more =
      (omega arith, refl, inr (subst (λ k. Closes k ts) (sym (one_back n)) more))
  closes_items (item j js) n ts above more =
      subst (Closes (n + 1)) (sym (append_assoc (json_tokens j) (items_tokens js) ts))
      (closes_value j (n + 1) (items_tokens js ++ ts) (omega arith) (closes_items js n ts above more))

  closes_members : (ms : Members) (n : ℕ) (ts : List Token) → 0 < n → Closes n ts
      → Closes (n + 1) (members_tokens ms ++ ts)
  closes_members no_members n ts above more =
      (omega arith, refl, inr (subst (λ k. Closes k ts) (sym (one_back n)) more))
  closes_members (member k j ms) n ts above more = (
    omega arith,
    refl,
    inr (subst (Closes (n + 1)) (sym (append_assoc (json_tokens j) (members_tokens ms) ts))
        (closes_value j (n + 1) (members_tokens ms ++ ts) (omega arith) (closes_members ms n ts above more))),
  )

pub closes_good : (n : ℕ) (ts : List Token) → Closes n ts → AreGood ts
closes_good n [] closes = tt
closes_good n (t ∷ ts) (above, good, inl last) = (good, subst AreGood (sym last.2) tt)
closes_good n (t ∷ ts) (above, good, inr more) = (good, closes_good (level_past t n) ts more)

-- the members of an object that is the whole text
pub closes_object : (ms : Members) → Closes 1 (members_tokens ms)
closes_object no_members = (omega arith, refl, inl (refl, refl, refl))
closes_object (member k j ms) =
    (omega arith, refl, inr (closes_value j 1 (members_tokens ms) (omega arith) (closes_object ms)))

mutual
  peak_value : (j : Json) (n : ℕ) (ts : List Token)
      → peak n (json_tokens j ++ ts) ≡ max (n + depth j) (peak n ts)
  peak_value json.null n ts = omega arith
  peak_value (json.boolean b) n ts = omega arith
  peak_value (json.number s) n ts = omega arith
  peak_value (json.string s) n ts = omega arith
  peak_value (json.array js) n ts = omega (arith, peak_items js n ts)
  peak_value (json.object ms) n ts = omega (arith, peak_members ms n ts)

  peak_items : (js : Items) (n : ℕ) (ts : List Token)
      → peak (n + 1) (items_tokens js ++ ts) ≡ max (n + 1 + items_depth js) (peak n ts)
  peak_items no_items n ts = omega (arith, ap (λ k. peak k ts) (one_back n))
  peak_items (item j js) n ts = omega (
    arith,
    ap (peak (n + 1)) (append_assoc (json_tokens j) (items_tokens js) ts),
    peak_value j (n + 1) (items_tokens js ++ ts),
    peak_items js n ts,
  )

  peak_members : (ms : Members) (n : ℕ) (ts : List Token)
      → peak (n + 1) (members_tokens ms ++ ts) ≡ max (n + 1 + members_depth ms) (peak n ts)
  peak_members no_members n ts = omega (arith, ap (λ k. peak k ts) (one_back n))
  peak_members (member k j ms) n ts = omega (
    arith,
    ap (peak (n + 1)) (append_assoc (json_tokens j) (members_tokens ms) ts),
    peak_value j (n + 1) (members_tokens ms ++ ts),
    peak_members ms n ts,
  )

pub peak_object : (ms : Members) → peak 1 (members_tokens ms) ≡ max (1 + members_depth ms) 0
peak_object ms = omega (
  arith,
  ap (peak 1) (sym (append-nil (members_tokens ms))),
  peak_members ms 0 [],
)

-- ---- of bytes

-- each byte stands above level 0 up to one that leads there, and then comes white space
pub record Falls (p : Spot) (text : List ℕ) : Type 0 where
  pub body : List ℕ
  pub tail : List ℕ
  pub whole : text ≡ body ++ tail
  pub spaces : AreSpaces tail
  pub ends : (walk p body).level ≡ 0
  pub inside : (k : ℕ) → k < length body → 0 < (walk p (take k body)).level

above_0 : (n : ℕ) (ts : List Token) → Closes n ts → 0 < n
above_0 n [] closes = absurd closes
above_0 n (t ∷ ts) closes = closes.0

further : (p : Spot) (b : ℕ) (body : List ℕ) → 0 < p.level
    → ((k : ℕ) → k < length body → 0 < (walk (past p b) (take k body)).level) → (k : ℕ)
    → k < length (b ∷ body) → 0 < (walk p (take k (b ∷ body))).level
further p b body above inside zero lt = above
further p b body above inside (suc k) lt = inside k (omega arith)

falls_on : (p : Spot) (b : ℕ) (text : List ℕ) → 0 < p.level → Falls (past p b) text → Falls p (b ∷ text)
falls_on p b text above f = record {
  body = b ∷ f.body;
  tail = f.tail;
  whole = ap (λ l. b ∷ l) f.whole;
  spaces = f.spaces;
  ends = f.ends;
  inside = further p b f.body above f.inside;
}

falls_by : (p : Spot) (b : ℕ) (text : List ℕ) (t : Token) (ts : List Token)
    → (past p b).level ≡ level_past t p.level → (is_closing t ≡ true → ts ≡ [] → AreSpaces text)
    → (Closes (past p b).level ts → Falls (past p b) text) → Closes p.level (t ∷ ts) → Falls p (b ∷ text)
falls_by p b text t ts level last later (above, good, inl (closing, none, end)) = record {
  body = b ∷ [];
  tail = text;
  whole = refl;
  spaces = last closing end;
  ends = level ∙ none;
  inside = further p b [] above (λ k lt. absurd (omega arith));
}
falls_by p b text t ts level last later (above, good, inr more) =
    falls_on p b text above (later (subst (λ n. Closes n ts) (sym level) more))

pub falls : (text : List ℕ) (ts : List Token) (p : Spot) → Runs text ts p → Closes p.level ts → Falls p text
falls [] ts p runs closes = absurd (subst (Closes p.level) runs closes)
falls (b ∷ text) ts p (inl quiet) closes = falls_on p b text (above_0 p.level ts closes)
    (falls text ts (past p b) quiet.1 (subst (λ n. Closes n ts) (sym quiet.0) closes))
falls (b ∷ text) ts p (inr begun) closes = falls_by p b text begun.0 begun.1 begun.3 begun.4
    (falls text begun.1 (past p b) begun.5) (subst (Closes p.level) begun.2 closes)

-- the highest level before a byte or at the end
abbrev pub highest : Spot → List ℕ → ℕ
highest p [] = p.level
highest p (b ∷ text) = max p.level (highest (past p b) text)

peak_above : (n : ℕ) (ts : List Token) → n ≤ peak n ts
peak_above n [] = omega arith
peak_above n (t ∷ ts) = le-max_left n (peak (level_past t n) ts)

pub highest_is : (text : List ℕ) (ts : List Token) (p : Spot) → Runs text ts p → highest p text ≡ peak p.level ts
highest_is [] ts p runs = ap (peak p.level) (sym runs)
highest_is (b ∷ text) ts p (inl quiet) =
    omega (arith, highest_is text ts (past p b) quiet.1, ap (λ n. peak n ts) quiet.0, peak_above p.level ts)
highest_is (b ∷ text) ts p (inr begun) = omega (
  arith,
  highest_is text begun.1 (past p b) begun.5,
  ap (λ n. peak n begun.1) begun.3,
  ap (peak p.level) begun.2,
)

pub never_higher : (text : List ℕ) (p : Spot) (k : ℕ) → (walk p (take k text)).level ≤ highest p text
never_higher [] p zero = omega arith
never_higher [] p (suc k) = omega arith
never_higher (b ∷ text) p zero = le-max_left p.level (highest (past p b) text)
never_higher (b ∷ text) p (suc k) = omega (
  arith,
  never_higher text (past p b) k,
  le-max_right p.level (highest (past p b) text),
)

pub reached : (text : List ℕ) (p : Spot) → (k : ℕ) × ((walk p (take k text)).level ≡ highest p text)
reached [] p = (0, refl)
reached (b ∷ text) p =
    let later = reached text (past p b) in
    ⊎_elim (λ (lt : p.level < highest (past p b) text). (later.0 + 1, rw add-one (omega (arith, later.1, lt))))
    (λ (le : highest (past p b) text ≤ p.level). (0, omega (arith, le)))
    (cases_lt p.level (highest (past p b) text))
