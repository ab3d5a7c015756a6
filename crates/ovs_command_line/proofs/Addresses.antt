-- Addresses, and the words that spell them, one after another.
use Rattle.std.proofs.Common.{◌≡◌, ◌∙◌, ◌<◌, ◌≤◌, ◌+◌, ℕ, zero, suc, ap, sym, subst, refl, arith, codes, List, [], ◌∷◌, ◌++◌, map, length, take, get_or, Option, Some, None, Bool}
use Rattle.std.specs.Borrow.{Bor}
use Rattle.std.specs.Prelude.{option_map, option_and_then, find, slice_get, bytes_eq, Contains}
use Rattle.std.specs.Option.{unwrap_or}
use Rattle.std.specs.List.{AllZip}
use Rattle.std.proofs.Math.Seq.{take-suc}
use Rattle.std.proofs.lemmas.List.{map-append}
use Rattle.std.proofs.lemmas.Slice.Zip.{AllZip-long}
use Rattle.clap.specs.Words.{Row, Text, all_of}
use Rattle.ovs_command_line.specs.declared.command_option.CommandOption.TheVariants.{Upstream}
use Rattle.ovs_command_line.specs.declared.command_fault.CommandFault.{CommandFault}
use Rattle.ovs_command_line.specs.declared.command_fault.CommandFault.TheVariants.{Usage, Missing, TwoOrigins, BadValue, OneTooMany, OwnAddress, ResyncOfSeveral, NoMemory}
use Rattle.ovs_command_line.specs.Values.{parts_of}
use Rattle.ovs_command_line.specs.Options.{Addresses, word_of, words_of, goes_beyond, SpellsUpstream, AreUpstreams}
use Rattle.ovs_command_line.specs.Faults.{IsFaultOf, IsOneTooMany, IsFaultAmong, IsFaultInside}

abbrev pub texts_of : List (Bor Text) → List Text
texts_of words = map (λ (w : Bor Text). w.now) words

zip_push : {A B : Type 0} (R : A → B → Type 0) (xs : List A) (ys : List B) (x : A) (y : B) → AllZip R xs ys → R x y → AllZip R (xs ++ x ∷ []) (ys ++ y ∷ [])
zip_push R [] [] x y each so = (so, tt)
zip_push R [] (z ∷ zs) x y each so = absurd each
zip_push R (w ∷ ws) [] x y each so = absurd each
zip_push R (w ∷ ws) (z ∷ zs) x y each so = (each.0, zip_push R ws zs x y each.1 so)

-- one more value of a word
pub one_more : {A : Type 0} (Spells : Text → A → Type 0) (words : List (Bor Text)) (i : ℕ) (d : Bor Text) (read after : List A) (value : A) → i < length words
    → AllZip Spells (texts_of (take i words)) read → after ≡ read ++ value ∷ [] → Spells (get_or words i d).now value
    → AllZip Spells (texts_of (take (i + 1) words)) after
one_more Spells words i d read after value within each more spells =
    let w = get_or words i d in
    let next : i + 1 ≡ suc i = omega arith in
    let taken : take (i + 1) words ≡ take i words ++ w ∷ [] = ap (λ n. take n words) next ∙ take-suc words i d within in
    let texts : texts_of (take (i + 1) words) ≡ texts_of (take i words) ++ w.now ∷ [] = ap texts_of taken ∙ map-append (λ (x : Bor Text). x.now) (take i words) (w ∷ []) in
    subst (λ ts. AllZip Spells ts after) (sym texts)
    (subst (AllZip Spells (texts_of (take i words) ++ w.now ∷ [])) (sym more) (zip_push Spells (texts_of (take i words)) read w.now value each spells))

-- ---- the words behind `--upstream`

-- those that are found of it, or none
pub words_met : (rows : List Row) (o : Option (Bor (List (Bor Text)))) (d r : Bor (List (Bor Text))) → r ≡ unwrap_or o d → d.now ≡ []
    → option_map (λ (s : Bor (List (Bor Text))). texts_of s.now) o ≡ all_of (codes "upstream") rows → texts_of r.now ≡ words_of Upstream rows
words_met rows (Some s) d r is empty same =
    ap (λ (x : Bor (List (Bor Text))). texts_of x.now) is ∙ ap (λ (x : Option (List Text)). unwrap_or x []) same
words_met rows None d r is empty same =
    ap (λ (x : Bor (List (Bor Text))). texts_of x.now) is ∙ ap texts_of empty ∙ ap (λ (x : Option (List Text)). unwrap_or x []) same

-- where there are none, there is no first
pub no_words : (rows : List Row) → words_of Upstream rows ≡ [] → word_of Upstream rows ≡ None
no_words rows none = by_row (find (λ (r : Row). bytes_eq r.id (codes "upstream")) rows) none
  where
    by_row : (r : Option Row) → unwrap_or (option_map (λ (r : Row). r.values) r) [] ≡ [] → option_and_then (λ (r : Row). slice_get r.values 0) r ≡ None
    by_row None none = refl
    by_row (Some r) none = ap (λ (values : List Text). slice_get values 0) none

-- the fifth of them is one too many
pub fifth_fault : (rows : List Row) (word : Text) → slice_get (words_of Upstream rows) 4 ≡ Some word → (fault : CommandFault) → IsOneTooMany word fault
    → IsFaultOf Upstream rows fault
fifth_fault rows word at (OneTooMany w) made = (refl, at ∙ ap Some (sym made))
fifth_fault rows word at NoMemory made = tt
fifth_fault rows word at (Usage line) made = absurd (let no : Usage line ≡ NoMemory = made in cc)
fifth_fault rows word at TwoOrigins made = absurd (let no : TwoOrigins ≡ NoMemory = made in cc)
fifth_fault rows word at (Missing o) made = absurd (let no : Missing o ≡ NoMemory = made in cc)
fifth_fault rows word at (BadValue o w) made = absurd (let no : BadValue o w ≡ NoMemory = made in cc)
fifth_fault rows word at (OwnAddress a) made = absurd (let no : OwnAddress a ≡ NoMemory = made in cc)
fifth_fault rows word at ResyncOfSeveral made = absurd (let no : ResyncOfSeveral ≡ NoMemory = made in cc)

-- a part of one of them is no address
pub address_fault : (rows : List Row) (fault : CommandFault) → IsFaultInside (goes_beyond rows) (words_of Upstream rows) fault → IsFaultOf Upstream rows fault
address_fault rows (BadValue o w) made = made
address_fault rows NoMemory made = tt
address_fault rows (OneTooMany w) made = absurd (let no : OneTooMany w ≡ NoMemory = made in cc)
address_fault rows (OwnAddress a) made = absurd (let no : OwnAddress a ≡ NoMemory = made in cc)
address_fault rows ResyncOfSeveral made = absurd (let no : ResyncOfSeveral ≡ NoMemory = made in cc)
address_fault rows (Usage line) made = absurd (let no : Usage line ≡ NoMemory = made in cc)
address_fault rows TwoOrigins made = absurd (let no : TwoOrigins ≡ NoMemory = made in cc)
address_fault rows (Missing o) made = absurd (let no : Missing o ≡ NoMemory = made in cc)

-- each has its addresses, and there are as many as may be
pub all_addresses : (rows : List Row) (upstreams : List Addresses) → 1 ≤ length (words_of Upstream rows) → length (words_of Upstream rows) ≤ 4
    → AllZip (SpellsUpstream rows) (words_of Upstream rows) upstreams → AreUpstreams rows upstreams
all_addresses rows upstreams least most each =
    let long = AllZip-long (SpellsUpstream rows) (words_of Upstream rows) upstreams each in (each, omega (arith, long, least), omega (arith, long, most))

-- ---- how many words there are

pub none_left : {A : Type 0} (xs : List A) → length xs ≡ 0 → xs ≡ []
none_left [] is = refl
none_left (x ∷ xs) is = absurd (omega (arith, is))

pub one_at_least : (n : ℕ) → (n ≡ 0 → ⊥) → 1 ≤ n
one_at_least zero some = absurd (some refl)
one_at_least (suc n) some = omega arith

-- a word spells each of these values
pub spelled_at : {A : Type 0} (Spells : Text → A → Type 0) (words : List Text) (values : List A) → AllZip Spells words values → (i : ℕ) (d : A)
    → i < length values → (word : Text) × Contains words word × Spells word (get_or values i d)
spelled_at Spells [] [] each i d within = absurd (omega (arith, within))
spelled_at Spells [] (b ∷ bs) each i d within = absurd each
spelled_at Spells (w ∷ ws) [] each i d within = absurd each
spelled_at Spells (w ∷ ws) (b ∷ bs) each zero d within = (w, (zero, omega arith, refl), each.0)
spelled_at Spells (w ∷ ws) (b ∷ bs) each (suc i) d within =
    let rest = spelled_at Spells ws bs each.1 i d (omega (arith, within)) in (rest.0, (suc rest.1.0, omega (arith, rest.1.1), rest.1.2), rest.2)

-- and one that is among them
pub spelled_in : {A : Type 0} (Spells : Text → A → Type 0) (words : List Text) (values : List A) → AllZip Spells words values → (value : A) → Contains values value
    → (word : Text) × Contains words word × Spells word value
spelled_in Spells [] [] each value (k, lt, at) = absurd (omega arith)
spelled_in Spells [] (b ∷ bs) each value among = absurd each
spelled_in Spells (w ∷ ws) [] each value among = absurd each
spelled_in Spells (w ∷ ws) (b ∷ bs) each value (zero, lt, at) = (w, (zero, omega arith, refl), subst (Spells w) at each.0)
spelled_in Spells (w ∷ ws) (b ∷ bs) each value (suc k, lt, at) =
    let rest = spelled_in Spells ws bs each.1 value (k, omega arith, at) in (rest.0, (suc rest.1.0, omega (arith, rest.1.1), rest.1.2), rest.2)

-- the fault of a part is that of its word
pub fault_inside : (beyond : Bool) (words : List Text) (word : Text) → Contains words word → (fault : CommandFault) → IsFaultAmong beyond (parts_of word) fault
    → IsFaultInside beyond words fault
fault_inside beyond words word among (BadValue o w) made = (made.0, (word, among, made.1), made.2)
fault_inside beyond words word among NoMemory made = refl
fault_inside beyond words word among (OneTooMany w) made = made
fault_inside beyond words word among (OwnAddress a) made = made
fault_inside beyond words word among ResyncOfSeveral made = made
fault_inside beyond words word among (Usage line) made = made
fault_inside beyond words word among TwoOrigins made = made
fault_inside beyond words word among (Missing o) made = made
