-- What was there where a step found something.
use Rattle.std.proofs.Common.{◌≡◌, ℕ, List, Bool, true, false, cond, Option, Some, None, refl, ap, sym, ◌∙◌}
use Rattle.std.specs.Prelude.{option_map, option_and_then}
use Rattle.std.specs.Cmp.Lexicographic.{bytes_decides}
use Rattle.std.specs.Str.{IsUtf8, is_utf8}
use Rattle.std.proofs.lemmas.Str.{IsUtf8-from_is_utf8, is_utf8-from_IsUtf8}
use Rattle.serde_json.specs.Data.{Data, string, array, Items, no_items, item}
use Rattle.serde_json.specs.Find.{as_str, as_array}
use Rattle.serde_json.specs.Read.{read}
use Rattle.ovs_json.specs.Parts.{json_of, is_text, is_word, two_of, two_items, under, list_under}
use Rattle.ovs_json.specs.Putting.{two, listed}
use Rattle.ovs_json.proofs.Steps.{array_of, string_of}

-- ---- options

pub some_is : {A : Type 0} (x y : A) → Some x ≡ Some y → x ≡ y
some_is x y e = cc

pub then_found : {A B : Type 0} (o : Option A) (f : A → Option B) (b : B) → option_and_then f o ≡ Some b → (a : A) × (o ≡ Some a) × (f a ≡ Some b)
then_found None f b e = absurd cc
then_found (Some a) f b e = (a, refl, e)

pub option_map_found : {A B : Type 0} (o : Option A) (f : A → B) (b : B) → option_map f o ≡ Some b → (a : A) × (o ≡ Some a) × (f a ≡ b)
option_map_found None f b e = absurd cc
option_map_found (Some a) f b e = (a, refl, some_is (f a) b e)

pub tested : {A : Type 0} (test : Bool) (x y : A) → cond test (Some x) None ≡ Some y → (test ≡ true) × (x ≡ y)
tested true x y e = (refl, some_is x y e)
tested false x y e = absurd cc

-- ---- parts of JSON values

two_of-is : (ds : Items) (p : Data × Data) → two_of ds ≡ Some p → array ds ≡ two p.0 p.1
two_of-is no_items p e = absurd cc
two_of-is (item d no_items) p e = absurd cc
two_of-is (item d (item f no_items)) p e = ap (λ (q : Data × Data). two q.0 q.1) (some_is (d, f) p e)
two_of-is (item d (item f (item g ds))) p e = absurd cc

pub two_items-is : (d : Data) (p : Data × Data) → two_items d ≡ Some p → d ≡ two p.0 p.1
two_items-is d p e =
    let h = then_found (as_array d) two_of p e in
    array_of d h.0 h.1 ∙ two_of-is h.0 p h.2

is_text-is : (word : List ℕ) (o : Option (List ℕ)) → is_text word o ≡ true → o ≡ Some word
is_text-is word None e = absurd cc
is_text-is word (Some s) e = ap Some ((bytes_decides s word).0 e)

pub is_word-is : (word : List ℕ) (d : Data) → is_word word d ≡ true → d ≡ string word
is_word-is word d e = string_of d word (is_text-is word (as_str d) e)

pub under-is : (word : List ℕ) (d e : Data) → under word d ≡ Some e → d ≡ two (string word) e
under-is word d e h =
    let f = then_found (two_items d) (λ (p : Data × Data). cond (is_word word p.0) (Some p.1) None) e h in
    let g = tested (is_word word f.0.0) f.0.1 e f.2 in
    two_items-is d f.0 f.1 ∙ ap (λ x. two x f.0.1) (is_word-is word f.0.0 g.0) ∙ ap (two (string word)) g.1

pub list_under-is : (word : List ℕ) (d : Data) (ds : Items) → list_under word d ≡ Some ds → d ≡ listed word ds
list_under-is word d ds h =
    let f = then_found (under word d) as_array ds h in
    under-is word d f.0 f.1 ∙ ap (two (string word)) (array_of f.0 ds f.2)

-- ---- bytes that are JSON, and bytes that are none

pub is_json : (bytes : List ℕ) (d : Data) → IsUtf8 bytes → read bytes ≡ Some d → Some d ≡ json_of bytes
is_json bytes d text is = rw (is_utf8-from_IsUtf8 bytes text) (sym is)

pub not_json : (bytes : List ℕ) → (IsUtf8 bytes → read bytes ≡ None) → None ≡ json_of bytes
not_json bytes h = elim (is_utf8 bytes) as (λ v. is_utf8 bytes ≡ v → None ≡ cond v (read bytes) None) [
  | true ↦ λ e. sym (h (IsUtf8-from_is_utf8 bytes e))
  | false ↦ λ e. refl
] refl
