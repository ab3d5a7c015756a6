-- The words of JSON text: a number or a literal runs to a space, an operator or the end, with no quote in it.
use Rattle.std.proofs.Common.{◌≡◌, ℕ, suc, ◌+◌, ◌-◌, ◌≤◌, Bool, true, false, ◌||◌, ◌==◌, cond, List, [], ◌∷◌, ◌++◌, length, take, drop, Option, Some, None, option_and_then, ◌⊎◌, inl, inr, refl, sym, ap, ◌∙◌, arith}
use Rattle.std.proofs.lemmas.Bool.{true≢false, false≢true, eqb-true, leb-true, ne_eqb, and_parts, or_cases}
use Rattle.std.proofs.lemmas.List.{take-append-drop}
use Rattle.std.proofs.lemmas.Slice.Eq.{bytes_eq-Decides}
use Rattle.std.specs.List.{prefix_len}
use Rattle.std.specs.Char.{is_ascii_digit}
use Rattle.json.specs.Token.{Token}
use Rattle.json.specs.Word.{is_operator, is_space, head, ends_word, after_digits, after_minus, after_sign, after_whole, after_fraction, after_exponent, after_number, number_before, literal, word}
use Rattle.json.specs.Lex.{Class, quote, backslash, operator, space, other, class}
use Rattle.json.specs.Align.{is_good}
use Rattle.ovs_wire.specs.Frames.{IsSpace}

-- ---- what the class of a byte says of it

-- it is no quote, no backslash and no operator
pub record IsPlain (x : ℕ) : Type 0 where
  pub quote : (x == 34) ≡ false
  pub backslash : (x == 92) ≡ false
  pub operator : is_operator x ≡ false

abbrev pub IsOfClass : Class → ℕ → Type 0
IsOfClass quote x = x ≡ 34
IsOfClass backslash x = x ≡ 92
IsOfClass operator x = is_operator x ≡ true
IsOfClass space x = IsSpace x × IsPlain x
IsOfClass other x = IsPlain x

space_by : (x : ℕ) (s t l c : Bool) → (x == 32) ≡ s → (x == 9) ≡ t → (x == 10) ≡ l → (x == 13) ≡ c
    → (((s || t) || l) || c) ≡ true → IsSpace x
space_by x true t l c p q r u e = inl (eqb-true x 32 p)
space_by x false true l c p q r u e = inr (inl (eqb-true x 9 q))
space_by x false false true c p q r u e = inr (inr (inr (eqb-true x 10 r)))
space_by x false false false true p q r u e = inr (inr (inl (eqb-true x 13 u)))
space_by x false false false false p q r u e = absurd (false≢true e)

is_space_is : (x : ℕ) → is_space x ≡ true → IsSpace x
is_space_is x e = space_by x (x == 32) (x == 9) (x == 10) (x == 13) refl refl refl refl e

abbrev class_by : Bool → Bool → Bool → Bool → Class
class_by q b o s = cond q quote (cond b backslash (cond o operator (cond s space other)))

of_class : (x : ℕ) (q b o s : Bool) → (x == 34) ≡ q → (x == 92) ≡ b → is_operator x ≡ o → is_space x ≡ s
    → IsOfClass (class_by q b o s) x
of_class x true b o s p r t u = eqb-true x 34 p
of_class x false true o s p r t u = eqb-true x 92 r
of_class x false false true s p r t u = t
of_class x false false false true p r t u =
    (is_space_is x u, record { quote = p; backslash = r; operator = t })
of_class x false false false false p r t u = record { quote = p; backslash = r; operator = t }

pub class_is : (x : ℕ) → IsOfClass (class x) x
class_is x = of_class x (x == 34) (x == 92) (is_operator x) (is_space x) refl refl refl refl

-- ---- no quote stands before the next space or operator

abbrev pub is_clean_by : Class → Bool → Bool
is_clean_by quote rest = false
is_clean_by backslash rest = rest
is_clean_by operator rest = true
is_clean_by space rest = true
is_clean_by other rest = rest

abbrev pub is_clean : List ℕ → Bool
is_clean [] = true
is_clean (x ∷ xs) = is_clean_by (class x) (is_clean xs)

-- where a word has ended
clean_by : (q b o s rest : Bool) → (q ≡ true → (o || s) ≡ false) → (b ≡ true → (o || s) ≡ false)
    → (o || s) ≡ true → is_clean_by (class_by q b o s) rest ≡ true
clean_by true b o s rest hq hb h = absurd (true≢false (sym h ∙ hq refl))
clean_by false true o s rest hq hb h = absurd (true≢false (sym h ∙ hb refl))
clean_by false false true s rest hq hb h = refl
clean_by false false false true rest hq hb h = refl
clean_by false false false false rest hq hb h = absurd (false≢true h)

clean_end : (t : List ℕ) → ends_word t ≡ true → is_clean t ≡ true
clean_end [] h = refl
clean_end (x ∷ xs) h = clean_by (x == 34) (x == 92) (is_operator x) (is_space x) (is_clean xs)
    (λ e. ap (λ y. is_operator y || is_space y) (eqb-true x 34 e))
    (λ e. ap (λ y. is_operator y || is_space y) (eqb-true x 92 e)) h

-- a byte that may stand in a word
abbrev Passes : ℕ → Type 0
Passes c = (rest : Bool) → is_clean_by (class c) rest ≡ rest

clean_first : (c : ℕ) (t : List ℕ) → Passes c → (head t == c) ≡ true → is_clean (drop 1 t) ≡ true
    → is_clean t ≡ true
clean_first c [] passes e h = refl
clean_first c (x ∷ xs) passes e h =
    ap (λ y. is_clean_by (class y) (is_clean xs)) (eqb-true x c e) ∙ passes (is_clean xs) ∙ h

clean_either : (a b : ℕ) (t : List ℕ) → Passes a → Passes b → ((head t == a) || (head t == b)) ≡ true
    → is_clean (drop 1 t) ≡ true → is_clean t ≡ true
clean_either a b t p q e h = clean_either_by (or_cases (head t == a) (head t == b) e)
  where
    clean_either_by : ((head t == a) ≡ true) ⊎ ((head t == b) ≡ true) → is_clean t ≡ true
    clean_either_by (inl f) = clean_first a t p f h
    clean_either_by (inr f) = clean_first b t q f h

digit_passes : (x : ℕ) → is_ascii_digit x ≡ true → Passes x
digit_passes x h rest =
    let parts = and_parts _ _ h in
    let low : 48 ≤ x = leb-true 48 x parts.0 in
    let high : x ≤ 57 = leb-true x 57 parts.1 in
    rw (
      ne_eqb x 34 (λ e. omega (arith, e, low)),
      ne_eqb x 92 (λ e. omega (arith, e, high)),
      ne_eqb x 123 (λ e. omega (arith, e, high)),
      ne_eqb x 125 (λ e. omega (arith, e, high)),
      ne_eqb x 91 (λ e. omega (arith, e, high)),
      ne_eqb x 93 (λ e. omega (arith, e, high)),
      ne_eqb x 58 (λ e. omega (arith, e, high)),
      ne_eqb x 44 (λ e. omega (arith, e, low)),
      ne_eqb x 32 (λ e. omega (arith, e, low)),
      ne_eqb x 9 (λ e. omega (arith, e, low)),
      ne_eqb x 10 (λ e. omega (arith, e, low)),
      ne_eqb x 13 (λ e. omega (arith, e, low)),
    ) refl

clean_digits_by : (d : Bool) (x : ℕ) (xs : List ℕ) (n : ℕ) → (d ≡ true → Passes x)
    → (is_clean (drop n xs) ≡ true → is_clean xs ≡ true) → is_clean (drop (cond d (1 + n) 0) (x ∷ xs)) ≡ true
    → is_clean (x ∷ xs) ≡ true
clean_digits_by false x xs n passes later h = h
clean_digits_by true x xs n passes later h =
    let e : 1 + n ≡ suc n = omega arith in
    passes refl (is_clean xs) ∙ later (ap (λ k. is_clean (drop k (x ∷ xs))) (sym e) ∙ h)

clean_digits : (t : List ℕ) → is_clean (drop (prefix_len is_ascii_digit t) t) ≡ true → is_clean t ≡ true
clean_digits [] h = refl
clean_digits (x ∷ xs) h =
    clean_digits_by (is_ascii_digit x) x xs (prefix_len is_ascii_digit xs) (digit_passes x) (clean_digits xs) h

-- what follows a part of a number is clean, where there is such a part
abbrev IsThenClean : Option (List ℕ) → Type 0
IsThenClean None = ⊥
IsThenClean (Some rest) = is_clean rest ≡ true

by_test : (b : Bool) (x y : Option (List ℕ)) (P : Type 0) → (b ≡ true → IsThenClean x → P)
    → (IsThenClean y → P) → IsThenClean (cond b x y) → P
by_test true x y P f g h = f refl h
by_test false x y P f g h = g h

skipped : (b : Bool) (t : List ℕ) → (b ≡ true → is_clean (drop 1 t) ≡ true → is_clean t ≡ true)
    → is_clean (cond b (drop 1 t) t) ≡ true → is_clean t ≡ true
skipped true t f h = f refl h
skipped false t f h = h

clean_after_digits : (t : List ℕ) → IsThenClean (after_digits t) → is_clean t ≡ true
clean_after_digits t = by_test (prefix_len is_ascii_digit t == 0) None
    (Some (drop (prefix_len is_ascii_digit t) t)) (is_clean t ≡ true) (λ e h. absurd h) (clean_digits t)

clean_after_exponent : (t : List ℕ) → IsThenClean (after_exponent t) → is_clean t ≡ true
clean_after_exponent t =
    let u = drop 1 t in
    by_test ((head t == 101) || (head t == 69)) (after_digits (after_sign u)) (Some t) (is_clean t ≡ true)
    (λ e h. clean_either 101 69 t (λ r. refl) (λ r. refl) e
    (skipped ((head u == 45) || (head u == 43)) u (clean_either 45 43 u (λ r. refl) (λ r. refl))
    (clean_after_digits (after_sign u) h)))
    (λ h. h)

clean_after_fraction : (t : List ℕ) → IsThenClean (after_fraction t) → is_clean t ≡ true
clean_after_fraction t = by_test (head t == 46) (after_digits (drop 1 t)) (Some t) (is_clean t ≡ true)
    (λ e h. clean_first 46 t (λ r. refl) e (clean_after_digits (drop 1 t) h)) (λ h. h)

clean_after_whole : (t : List ℕ) → IsThenClean (after_whole t) → is_clean t ≡ true
clean_after_whole t = by_test (head t == 48) (Some (drop 1 t)) (after_digits t) (is_clean t ≡ true)
    (λ e h. clean_first 48 t (λ r. refl) e h) (clean_after_digits t)

back : (f : List ℕ → Option (List ℕ)) → ((t : List ℕ) → IsThenClean (f t) → is_clean t ≡ true)
    → (o : Option (List ℕ)) → IsThenClean (option_and_then f o) → IsThenClean o
back f p None h = h
back f p (Some t) h = p t h

clean_after_number : (t : List ℕ) → IsThenClean (after_number t) → is_clean t ≡ true
unfolding after_number
clean_after_number t h =
    let u = after_minus t in
    let whole = after_whole u in
    skipped (head t == 45) t (clean_first 45 t (λ r. refl)) (clean_after_whole u
    (back after_fraction clean_after_fraction whole
    (back after_exponent clean_after_exponent (option_and_then after_fraction whole) h)))

-- ---- a word that is no fault is clean, and opens and closes nothing

-- a number, a literal or a fault
abbrev pub IsWord : Token → Type 0
IsWord (Token.number s) = Unit {0}
IsWord (Token.boolean b) = Unit {0}
IsWord Token.null = Unit {0}
IsWord Token.bad = Unit {0}
IsWord t = ⊥

pub record GoodWord (t : List ℕ) (k : Token) : Type 0 where
  pub is_word : IsWord k
  pub clean : is_good k ≡ true → is_clean t ≡ true

no_word : (t : List ℕ) → GoodWord t Token.bad
no_word t = record { is_word = tt; clean = λ h. absurd (false≢true h) }

either_word : (b : Bool) (t : List ℕ) (x y : Token) → (b ≡ true → GoodWord t x) → GoodWord t y
    → GoodWord t (cond b x y)
either_word true t x y f g = f refl
either_word false t x y f g = g

number_word : (t : List ℕ) (o : Option (List ℕ)) → (IsThenClean o → is_clean t ≡ true)
    → GoodWord t (number_before t o)
number_word t None f = no_word t
number_word t (Some rest) f = either_word (ends_word rest) t (Token.number (take (length t - length rest) t)) Token.bad
    (λ e. record { is_word = tt; clean = λ h. f (clean_end rest e) }) (no_word t)

literal_word : (name : List ℕ) (k : Token) (t : List ℕ) → IsWord k
    → ((rest : List ℕ) → is_clean (name ++ rest) ≡ is_clean rest) → GoodWord t (literal name k t)
literal_word name k t is passes = either_word _ t k Token.bad
    (λ e. record {
      is_word = is;
      clean = λ h.
          let both = and_parts _ _ e in
          let front : name ≡ take (length name) t = (bytes_eq-Decides name (take (length name) t)).0 both.0 in
          ap is_clean (sym (take-append-drop (length name) t) ∙ ap (λ l. l ++ drop (length name) t) (sym front)) ∙
          passes (drop (length name) t) ∙ clean_end (drop (length name) t) both.1;
    }) (no_word t)

pub word_is : (t : List ℕ) → GoodWord t (word t)
unfolding word
word_is t =
    either_word (head t == 116) t _ _
    (λ e. literal_word (116 ∷ 114 ∷ 117 ∷ 101 ∷ []) (Token.boolean true) t tt (λ r. refl))
    (either_word (head t == 102) t _ _
    (λ e. literal_word (102 ∷ 97 ∷ 108 ∷ 115 ∷ 101 ∷ []) (Token.boolean false) t tt (λ r. refl))
    (either_word (head t == 110) t _ _
    (λ e. literal_word (110 ∷ 117 ∷ 108 ∷ 108 ∷ []) Token.null t tt (λ r. refl))
    (number_word t (after_number t) (clean_after_number t))))
