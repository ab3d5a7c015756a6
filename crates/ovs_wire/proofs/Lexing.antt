-- How deep each byte of JSON text stands, by the text's tokens.
use Rattle.std.proofs.Common.{◌≡◌, ℕ, ◌+◌, ◌-◌, Bool, true, false, ◌||◌, ◌==◌, List, [], ◌∷◌, ◌++◌, Option, Some, None, ◌⊎◌, inl, inr, refl, sym, ap, ◌∙◌, subst}
use Rattle.std.proofs.lemmas.Bool.{false≢true, true≢false, eqb-true}
use Rattle.json.specs.Token.{Token, begin_object, end_object, begin_array, end_array, key, string, number, boolean, null, bad}
use Rattle.json.specs.Text.{content, plain}
use Rattle.json.specs.Word.{is_operator, word}
use Rattle.json.specs.Lex.{Lexeme, token, comma, colon, Class, quote, backslash, operator, space, other, class, operator_lexeme, string_token, Mode, between, in_word, in_string, in_escape, lex_byte, lex, Place, fresh, after_value, after_comma, after_key, begins_colon, may_begin, may_close, if_allowed, place_token, punctuate}
use Rattle.json.specs.Align.{is_good}
use Rattle.ovs_wire.specs.Depth.{Side, Outside, Inside, Escaped}
use Rattle.ovs_wire.specs.Frames.{IsSpace}
use Rattle.ovs_wire.proofs.Depths.{Spot, spot, past}
use Rattle.ovs_wire.proofs.Words.{IsPlain, IsOfClass, class_is, is_clean_by, is_clean, IsWord, word_is}

-- the level after a token
abbrev pub level_past : Token → ℕ → ℕ
level_past begin_object n = n + 1
level_past end_object n = n - 1
level_past begin_array n = n + 1
level_past end_array n = n - 1
level_past t n = n

abbrev pub is_closing : Token → Bool
is_closing end_object = true
is_closing end_array = true
is_closing t = false

abbrev pub AreSpaces : List ℕ → Type 0
AreSpaces [] = Unit {0}
AreSpaces (b ∷ text) = IsSpace b × AreSpaces text

-- no token is a fault
abbrev pub AreGood : List Token → Type 0
AreGood [] = Unit {0}
AreGood (t ∷ ts) = (is_good t ≡ true) × AreGood ts

-- each byte leaves the level, or a token begins there, and what follows the last bracket is white space
abbrev pub Runs : List ℕ → List Token → Spot → Type 0
Runs [] ts p = ts ≡ []
Runs (b ∷ text) ts p = (((past p b).level ≡ p.level) × Runs text ts (past p b)) ⊎
    ((t : Token) × (rest : List Token) × (ts ≡ t ∷ rest) × ((past p b).level ≡ level_past t p.level) × (is_closing t
    ≡ true → rest ≡ [] → AreSpaces text) × Runs text rest (past p b))

-- ---- after a value only white space has no token

if_allowed_some : (b : Bool) (t : Token) (k : Place → List Token) (next : Place) → if_allowed b t k next ≡ [] → ⊥
if_allowed_some true t k next e = cc (e)
if_allowed_some false t k next e = cc (e)

place_token_some : (p : Place) (t : Token) (b : Bool) (k : Place → List Token) → place_token p t b k ≡ [] → ⊥
place_token_some p begin_object b k = if_allowed_some (may_begin p) begin_object k fresh
place_token_some p end_object b k = if_allowed_some (may_close p) end_object k after_value
place_token_some p begin_array b k = if_allowed_some (may_begin p) begin_array k fresh
place_token_some p end_array b k = if_allowed_some (may_close p) end_array k after_value
place_token_some p (key s) b k = λ e. cc (e)
place_token_some p (string s) true k = if_allowed_some (may_begin p) (key s) k after_key
place_token_some p (string s) false k = if_allowed_some (may_begin p) (string s) k after_value
place_token_some p (number s) b k = if_allowed_some (may_begin p) (number s) k after_value
place_token_some p (boolean v) b k = if_allowed_some (may_begin p) (boolean v) k after_value
place_token_some p null b k = if_allowed_some (may_begin p) null k after_value
place_token_some p bad b k = λ e. cc (e)

comma_some : (ls : List Lexeme) → punctuate after_comma ls ≡ [] → ⊥
unfolding punctuate
comma_some [] e = cc (e)
comma_some (token t ∷ ls) e = place_token_some after_comma t (begins_colon ls) (λ next. punctuate next ls) e
comma_some (comma ∷ ls) e = cc (e)
comma_some (colon ∷ ls) e = cc (e)

value_some : (l : Lexeme) (ls : List Lexeme) → punctuate after_value (l ∷ ls) ≡ [] → ⊥
unfolding punctuate
value_some (token t) ls e = place_token_some after_value t (begins_colon ls) (λ next. punctuate next ls) e
value_some comma ls e = comma_some ls e
value_some colon ls e = cc (e)

spaces_by : (c : Class) (b : ℕ) (text : List ℕ) → IsOfClass c b
    → (punctuate after_value (lex between text) ≡ [] → AreSpaces text)
    → punctuate after_value (lex_byte between c b text (λ next. lex next text)) ≡ [] → AreSpaces (b ∷ text)
spaces_by quote b text is later e = absurd (value_some _ _ e)
spaces_by backslash b text is later e = absurd (value_some _ _ e)
spaces_by operator b text is later e = absurd (value_some _ _ e)
spaces_by space b text is later e = (is.0, later e)
spaces_by other b text is later e = absurd (value_some _ _ e)

only_spaces : (text : List ℕ) → punctuate after_value (lex between text) ≡ [] → AreSpaces text
unfolding lex
only_spaces [] e = tt
only_spaces (b ∷ text) e = spaces_by (class b) b text (class_is b) (only_spaces text) e

-- ---- a token that is allowed where it stands

-- the first of the tokens is t, as a key or as a string, and the others follow at a place
record Placed (t : Token) (k : Place → List Token) (ts : List Token) : Type 0 where
  first : Token
  next : Place
  is : ts ≡ first ∷ k next
  good : is_good t ≡ true
  level : (n : ℕ) → level_past first n ≡ level_past t n
  closing : is_closing first ≡ is_closing t
  after : is_closing first ≡ true → next ≡ after_value
  later : AreGood (k next)

allowed : (b : Bool) (t first : Token) (k : Place → List Token) (next : Place) → is_good t ≡ true
    → ((n : ℕ) → level_past first n ≡ level_past t n) → is_closing first ≡ is_closing t
    → (is_closing first ≡ true → next ≡ after_value) → AreGood (if_allowed b first k next)
    → Placed t k (if_allowed b first k next)
allowed true t first k next good level closing after h = record {
  first = first;
  next = next;
  is = refl;
  good = good;
  level = level;
  closing = closing;
  after = after;
  later = h.1;
}
allowed false t first k next good level closing after h = absurd (false≢true h.0)

open_no : {A : Type 0} → false ≡ true → A
open_no e = absurd (false≢true e)

placed : (p : Place) (t : Token) (b : Bool) (k : Place → List Token) → AreGood (place_token p t b k)
    → Placed t k (place_token p t b k)
placed p begin_object b k h =
    allowed (may_begin p) begin_object begin_object k fresh refl (λ n. refl) refl open_no h
placed p end_object b k h =
    allowed (may_close p) end_object end_object k after_value refl (λ n. refl) refl (λ e. refl) h
placed p begin_array b k h =
    allowed (may_begin p) begin_array begin_array k fresh refl (λ n. refl) refl open_no h
placed p end_array b k h =
    allowed (may_close p) end_array end_array k after_value refl (λ n. refl) refl (λ e. refl) h
placed p (key s) b k h = absurd (false≢true h.0)
placed p (string s) true k h =
    allowed (may_begin p) (string s) (key s) k after_key refl (λ n. refl) refl open_no h
placed p (string s) false k h =
    allowed (may_begin p) (string s) (string s) k after_value refl (λ n. refl) refl open_no h
placed p (number s) b k h =
    allowed (may_begin p) (number s) (number s) k after_value refl (λ n. refl) refl open_no h
placed p (boolean v) b k h =
    allowed (may_begin p) (boolean v) (boolean v) k after_value refl (λ n. refl) refl open_no h
placed p null b k h = allowed (may_begin p) null null k after_value refl (λ n. refl) refl open_no h
placed p bad b k h = absurd (false≢true h.0)

-- ---- from the lexer's modes

abbrev side_of : Mode → Side
side_of between = Outside
side_of in_word = Outside
side_of in_string = Inside
side_of in_escape = Escaped

-- no quote stands in the rest of a word
abbrev Ready : Mode → List ℕ → Type 0
Ready in_word text = is_clean text ≡ true
Ready m text = Unit {0}

abbrev RunsFrom : List ℕ → Mode → Type 0
RunsFrom text m = (p : Place) (n : ℕ) → Ready m text → AreGood (punctuate p (lex m text))
    → Runs text (punctuate p (lex m text)) (spot (side_of m) n)

-- a byte at which no token begins
quiet : (b : ℕ) (text : List ℕ) (side : Side) (m : Mode) (p : Place) (n : ℕ)
    → past (spot side n) b ≡ spot (side_of m) n → RunsFrom text m → Ready m text
    → AreGood (punctuate p (lex m text)) → Runs (b ∷ text) (punctuate p (lex m text)) (spot side n)
quiet b text side m p n moves later ready good = inl (
  ap (λ (q : Spot). q.level) moves,
  subst (λ (q : Spot). Runs text (punctuate p (lex m text)) q) (sym moves) (later p n ready good),
)

-- a byte at which a token begins
begun : (b : ℕ) (text : List ℕ) (m : Mode) (p : Place) (t : Token) (c : Bool) (n : ℕ)
    → past (spot Outside n) b ≡ spot (side_of m) (level_past t n) → (is_closing t ≡ true → m ≡ between)
    → (is_good t ≡ true → Ready m text) → RunsFrom text m
    → AreGood (place_token p t c (λ next. punctuate next (lex m text)))
    → Runs (b ∷ text) (place_token p t c (λ next. punctuate next (lex m text))) (spot Outside n)
begun b text m p t c n moves last ready later good =
    let h = placed p t c (λ next. punctuate next (lex m text)) good in
    let rest = punctuate h.next (lex m text) in
    let same : spot (side_of m) (level_past t n) ≡ past (spot Outside n) b = sym moves in
    inr (
      h.first,
      rest,
      h.is,
      ap (λ (q : Spot). q.level) moves ∙ sym (h.level n),
      λ closes none. only_spaces text
          (subst (λ (q : Place). punctuate q (lex between text) ≡ []) (h.after closes)
          (subst (λ (o : Mode). punctuate h.next (lex o text) ≡ []) (last (sym h.closing ∙ closes)) none)),
      subst (λ (q : Spot). Runs text rest q) same (later h.next (level_past t n) (ready h.good) h.later),
    )

-- ---- where each class of byte leads

six_by : (P : ℕ → Type 0) → P 123 → P 125 → P 91 → P 93 → P 58 → P 44 → (b : ℕ) (u v w x y z : Bool)
    → (b == 123) ≡ u → (b == 125) ≡ v → (b == 91) ≡ w → (b == 93) ≡ x → (b == 58) ≡ y → (b == 44) ≡ z
    → (((((u || v) || w) || x) || y) || z) ≡ true → P b
six_by P f g h i j k b true v w x y z p q r s t o e = subst P (sym (eqb-true b 123 p)) f
six_by P f g h i j k b false true w x y z p q r s t o e = subst P (sym (eqb-true b 125 q)) g
six_by P f g h i j k b false false true x y z p q r s t o e = subst P (sym (eqb-true b 91 r)) h
six_by P f g h i j k b false false false true y z p q r s t o e = subst P (sym (eqb-true b 93 s)) i
six_by P f g h i j k b false false false false true z p q r s t o e = subst P (sym (eqb-true b 58 t)) j
six_by P f g h i j k b false false false false false true p q r s t o e = subst P (sym (eqb-true b 44 o)) k
six_by P f g h i j k b false false false false false false p q r s t o e = absurd (false≢true e)

six : (P : ℕ → Type 0) → P 123 → P 125 → P 91 → P 93 → P 58 → P 44 → (b : ℕ) → is_operator b ≡ true → P b
six P f g h i j k b e = six_by P f g h i j k b (b == 123) (b == 125) (b == 91) (b == 93) (b == 58) (b == 44)
    refl refl refl refl refl refl e

no_bracket : (u v w x y z : Bool) → (((((u || v) || w) || x) || y) || z) ≡ false
    → ((u || w) ≡ false) × ((v || x) ≡ false)
no_bracket false false false false y z e = (refl, refl)
no_bracket true v w x y z e = absurd (true≢false e)
no_bracket false true w x y z e = absurd (true≢false e)
no_bracket false false true x y z e = absurd (true≢false e)
no_bracket false false false true y z e = absurd (true≢false e)

past_plain : (n b : ℕ) → IsPlain b → past (spot Outside n) b ≡ spot Outside n
past_plain n b is =
    let none = no_bracket (b == 123) (b == 125) (b == 91) (b == 93) (b == 58) (b == 44) is.operator in
    rw (is.quote, none.0, none.1) refl

past_in_string : (n b : ℕ) → IsPlain b → past (spot Inside n) b ≡ spot Inside n
past_in_string n b is = rw (is.backslash, is.quote) refl

flat_string : (o : Option (List ℕ)) (n : ℕ) → level_past (string_token o) n ≡ n
flat_string None n = refl
flat_string (Some s) n = refl

open_string : (o : Option (List ℕ)) → is_closing (string_token o) ≡ false
open_string None = refl
open_string (Some s) = refl

flat_word : (t : Token) (n : ℕ) → IsWord t → level_past t n ≡ n
flat_word (number s) n is = refl
flat_word (boolean b) n is = refl
flat_word null n is = refl
flat_word bad n is = refl
flat_word t n is = absurd is

open_word : (t : Token) → IsWord t → is_closing t ≡ false
open_word (number s) is = refl
open_word (boolean b) is = refl
open_word null is = refl
open_word bad is = refl
open_word t is = absurd is

-- after a comma or a colon, where it is allowed
at_comma : (text : List ℕ) (p : Place) (n : ℕ) → RunsFrom text between
    → AreGood (punctuate p (comma ∷ lex between text))
    → Runs (44 ∷ text) (punctuate p (comma ∷ lex between text)) (spot Outside n)
unfolding punctuate
at_comma text after_value n later good = quiet 44 text Outside between after_comma n refl later tt good
at_comma text fresh n later good = absurd (false≢true good.0)
at_comma text after_comma n later good = absurd (false≢true good.0)
at_comma text after_key n later good = absurd (false≢true good.0)

at_colon : (text : List ℕ) (p : Place) (n : ℕ) → RunsFrom text between
    → AreGood (punctuate p (colon ∷ lex between text))
    → Runs (58 ∷ text) (punctuate p (colon ∷ lex between text)) (spot Outside n)
unfolding punctuate
at_colon text after_key n later good = quiet 58 text Outside between fresh n refl later tt good
at_colon text fresh n later good = absurd (false≢true good.0)
at_colon text after_comma n later good = absurd (false≢true good.0)
at_colon text after_value n later good = absurd (false≢true good.0)

abbrev AtOperator : List ℕ → Place → ℕ → ℕ → Type 0
AtOperator text p n b = AreGood (punctuate p (operator_lexeme b ∷ lex between text))
    → Runs (b ∷ text) (punctuate p (operator_lexeme b ∷ lex between text)) (spot Outside n)

at_bracket : (b : ℕ) (text : List ℕ) (p : Place) (t : Token) (n : ℕ)
    → past (spot Outside n) b ≡ spot Outside (level_past t n) → RunsFrom text between
    → AreGood (punctuate p (token t ∷ lex between text))
    → Runs (b ∷ text) (punctuate p (token t ∷ lex between text)) (spot Outside n)
unfolding punctuate
at_bracket b text p t n moves later good =
    begun b text between p t (begins_colon (lex between text)) n moves (λ e. refl) (λ e. tt) later good

at_operator : (b : ℕ) (text : List ℕ) (p : Place) (n : ℕ) → is_operator b ≡ true → RunsFrom text between
    → AtOperator text p n b
at_operator b text p n is later = six (AtOperator text p n) (at_bracket 123 text p begin_object n refl later)
    (at_bracket 125 text p end_object n refl later) (at_bracket 91 text p begin_array n refl later)
    (at_bracket 93 text p end_array n refl later) (at_colon text p n later) (at_comma text p n later) b is

-- a string or a word
at_scalar : (b : ℕ) (text : List ℕ) (m : Mode) (p : Place) (t : Token) (n : ℕ)
    → past (spot Outside n) b ≡ spot (side_of m) (level_past t n) → is_closing t ≡ false
    → (is_good t ≡ true → Ready m text) → RunsFrom text m
    → AreGood (punctuate p (token t ∷ lex m text))
    → Runs (b ∷ text) (punctuate p (token t ∷ lex m text)) (spot Outside n)
unfolding punctuate
at_scalar b text m p t n moves opens ready later good =
    begun b text m p t (begins_colon (lex m text)) n moves (λ e. absurd (false≢true (sym opens ∙ e))) ready later
    good

-- the rest of a word is clean after a byte that isn't a space or an operator
clean_later : (b : ℕ) (text : List ℕ) → class b ≡ other → is_clean (b ∷ text) ≡ true → is_clean text ≡ true
clean_later b text is h = ap (λ c. is_clean_by c (is_clean text)) (sym is) ∙ h

-- in a string, also right after a backslash that escapes
in_quotes : (c : Class) (b : ℕ) (text : List ℕ) (p : Place) (n : ℕ) → IsOfClass c b
    → ((m : Mode) → RunsFrom text m) → AreGood (punctuate p (lex_byte in_string c b text (λ m. lex m text)))
    → Runs (b ∷ text) (punctuate p (lex_byte in_string c b text (λ m. lex m text))) (spot Inside n)
in_quotes quote b text p n is later good =
    quiet b text Inside between p n (ap (past (spot Inside n)) is) (later between) tt good
in_quotes backslash b text p n is later good =
    quiet b text Inside in_escape p n (ap (past (spot Inside n)) is) (later in_escape) tt good
in_quotes operator b text p n is later good = quiet b text Inside in_string p n
    (six (λ x. past (spot Inside n) x ≡ spot Inside n) refl refl refl refl refl refl b is) (later in_string) tt
    good
in_quotes space b text p n is later good =
    quiet b text Inside in_string p n (past_in_string n b is.1) (later in_string) tt good
in_quotes other b text p n is later good =
    quiet b text Inside in_string p n (past_in_string n b is) (later in_string) tt good

by_byte : (m : Mode) (c : Class) (b : ℕ) (text : List ℕ) (p : Place) (n : ℕ) → class b ≡ c → IsOfClass c b
    → ((o : Mode) → RunsFrom text o) → Ready m (b ∷ text)
    → AreGood (punctuate p (lex_byte m c b text (λ o. lex o text)))
    → Runs (b ∷ text) (punctuate p (lex_byte m c b text (λ o. lex o text))) (spot (side_of m) n)
by_byte between quote b text p n e is later ready good =
    let o = content plain text in
    at_scalar b text in_string p (string_token o) n
    (ap (past (spot Outside n)) is ∙ ap (spot Inside) (sym (flat_string o n))) (open_string o) (λ g. tt)
    (later in_string) good
by_byte between backslash b text p n e is later ready good =
    at_scalar b text in_word p bad n (ap (past (spot Outside n)) is) refl (λ g. absurd (false≢true g))
    (later in_word) good
by_byte between operator b text p n e is later ready good = at_operator b text p n is (later between) good
by_byte between space b text p n e is later ready good =
    quiet b text Outside between p n (past_plain n b is.1) (later between) tt good
by_byte between other b text p n e is later ready good =
    let t = word (b ∷ text) in
    let w = word_is (b ∷ text) in
    at_scalar b text in_word p t n (past_plain n b is ∙ ap (spot Outside) (sym (flat_word t n w.is_word)))
    (open_word t w.is_word) (λ g. clean_later b text e (w.clean g)) (later in_word) good
by_byte in_word quote b text p n e is later ready good =
    absurd (false≢true (ap (λ c. is_clean_by c (is_clean text)) (sym e) ∙ ready))
by_byte in_word backslash b text p n e is later ready good =
    quiet b text Outside in_word p n (ap (past (spot Outside n)) is) (later in_word)
    (ap (λ c. is_clean_by c (is_clean text)) (sym e) ∙ ready) good
by_byte in_word operator b text p n e is later ready good = at_operator b text p n is (later between) good
by_byte in_word space b text p n e is later ready good =
    quiet b text Outside between p n (past_plain n b is.1) (later between) tt good
by_byte in_word other b text p n e is later ready good =
    quiet b text Outside in_word p n (past_plain n b is) (later in_word) (clean_later b text e ready) good
by_byte in_string c b text p n e is later ready good = in_quotes c b text p n is later good
by_byte in_escape c b text p n e is later ready good =
    quiet b text Escaped in_string p n refl (later in_string) tt good

nothing_left : (p : Place) → AreGood (punctuate p []) → punctuate p [] ≡ []
unfolding punctuate
nothing_left fresh good = refl
nothing_left after_value good = refl
nothing_left after_comma good = absurd (false≢true good.0)
nothing_left after_key good = absurd (false≢true good.0)

runs_from : (text : List ℕ) (m : Mode) → RunsFrom text m
unfolding lex
runs_from [] m p n ready good = nothing_left p good
runs_from (b ∷ text) m p n ready good =
    by_byte m (class b) b text p n refl (class_is b) (runs_from text) ready good

-- after an object's opening brace
pub runs : (text : List ℕ) (n : ℕ) → AreGood (punctuate fresh (lex between text))
    → Runs text (punctuate fresh (lex between text)) (spot Outside n)
runs text n good = runs_from text between fresh n tt good

-- ---- a text whose first token opens an object

pub record Opened (text : List ℕ) (ts : List Token) : Type 0 where
  pub before : List ℕ
  pub rest : List ℕ
  pub whole : text ≡ before ++ 123 ∷ rest
  pub spaces : AreSpaces before
  pub tokens : punctuate fresh (lex between rest) ≡ ts

abbrev pub OpensAfter : List ℕ → List Token → Type 0
OpensAfter text ts = punctuate fresh (lex between text) ≡ begin_object ∷ ts → Opened text ts

first_opens : (t : Token) (b : Bool) (k : Place → List Token) (ts : List Token)
    → place_token fresh t b k ≡ begin_object ∷ ts → t ≡ begin_object
first_opens begin_object b k ts e = refl
first_opens end_object b k ts e = absurd (cc (e))
first_opens begin_array b k ts e = absurd (cc (e))
first_opens end_array b k ts e = absurd (cc (e))
first_opens (key s) b k ts e = absurd (cc (e))
first_opens (string s) true k ts e = absurd (cc (e))
first_opens (string s) false k ts e = absurd (cc (e))
first_opens (number s) b k ts e = absurd (cc (e))
first_opens (boolean v) b k ts e = absurd (cc (e))
first_opens null b k ts e = absurd (cc (e))
first_opens bad b k ts e = absurd (cc (e))

no_string_opens : {A : Type 0} (o : Option (List ℕ)) → string_token o ≡ begin_object → A
no_string_opens None e = absurd (cc (e))
no_string_opens (Some s) e = absurd (cc (e))

no_word_opens : {A : Type 0} (t : Token) → IsWord t → t ≡ begin_object → A
no_word_opens begin_object is e = absurd is
no_word_opens (number s) is e = absurd (cc (e))
no_word_opens (boolean b) is e = absurd (cc (e))
no_word_opens null is e = absurd (cc (e))
no_word_opens bad is e = absurd (cc (e))
no_word_opens t is e = absurd is

token_opens : (t : Token) (ls : List Lexeme) (ts : List Token)
    → punctuate fresh (token t ∷ ls) ≡ begin_object ∷ ts → t ≡ begin_object
unfolding punctuate
token_opens t ls ts e = first_opens t (begins_colon ls) (λ next. punctuate next ls) ts e

operator_opens : (text : List ℕ) (ts : List Token) (b : ℕ) → is_operator b ≡ true
    → punctuate fresh (operator_lexeme b ∷ lex between text) ≡ begin_object ∷ ts → Opened (b ∷ text) ts
unfolding punctuate
operator_opens text ts = six
    (λ b. punctuate fresh (operator_lexeme b ∷ lex between text) ≡ begin_object ∷ ts → Opened (b ∷ text) ts)
    (λ e. record { before = []; rest = text; whole = refl; spaces = tt; tokens = cc (e) })
    (λ e. absurd (cc (e))) (λ e. absurd (cc (e))) (λ e. absurd (cc (e))) (λ e. absurd (cc (e)))
    (λ e. absurd (cc (e)))

opens_by : (c : Class) (b : ℕ) (text : List ℕ) (ts : List Token) → IsOfClass c b → OpensAfter text ts
    → punctuate fresh (lex_byte between c b text (λ m. lex m text)) ≡ begin_object ∷ ts → Opened (b ∷ text) ts
opens_by quote b text ts is later e =
    no_string_opens (content plain text) (token_opens (string_token (content plain text)) (lex in_string text) ts e)
opens_by backslash b text ts is later e = no_word_opens bad tt (token_opens bad (lex in_word text) ts e)
opens_by operator b text ts is later e = operator_opens text ts b is e
opens_by space b text ts is later e =
    let o = later e in
    record {
      before = b ∷ o.before;
      rest = o.rest;
      whole = ap (λ l. b ∷ l) o.whole;
      spaces = (is.0, o.spaces);
      tokens = o.tokens;
    }
opens_by other b text ts is later e =
    no_word_opens (word (b ∷ text)) (word_is (b ∷ text)).is_word (token_opens (word (b ∷ text)) (lex in_word text) ts e)

pub opens : (text : List ℕ) (ts : List Token) → OpensAfter text ts
unfolding lex punctuate
opens [] ts e = absurd (cc (e))
opens (b ∷ text) ts e = opens_by (class b) b text ts (class_is b) (opens text ts) e
