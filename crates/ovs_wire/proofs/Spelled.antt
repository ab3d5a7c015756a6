-- The text of a JSON object is balanced, with white space around it.
use Rattle.std.proofs.Common.{All, ◌≡◌, ℕ, zero, suc, ◌+◌, ◌<◌, ◌≤◌, ⊎_elim, inl, inr, List, [], ◌∷◌, ◌++◌, length, take, get_or, ◌-◌, slice_index, Option, Some, None, option_map, option_and_then, refl, sym, ap, ◌∙◌, subst, arith, append-nil, length-append}
use Rattle.std.proofs.lemmas.Bool.{cases_lt}
use Rattle.std.proofs.lemmas.List.{take_all, take-append-le, get_or-append_right}
use Rattle.std.proofs.lemmas.List.Elements.{All-nil, All-cons, All-head, All-tail, All-get_or}
use Rattle.std.proofs.lemmas.List.Sums.{fold-append}
use Rattle.std.proofs.Math.Seq.{take-length, take-append-add}
use Rattle.json.specs.Token.{Token}
use Rattle.json.specs.Lex.{tokens}
use Rattle.json.specs.Json as json
use Rattle.json.specs.Json.{Json, value, if_last}
use Rattle.json.specs.Tree.{json_tokens, members_tokens, depth as json_depth}
use Rattle.json.proofs.Unique.Spelling.{value-json_tokens_back}
use Rattle.serde_json.specs.Data.{Data, number, array, object, Members}
use Rattle.serde_json.specs.Read.{read, max_depth, number_of, of_json, of_items}
use Rattle.ovs_wire.specs.Limits.{most_nesting}
use Rattle.ovs_wire.specs.Depth.{Outside, depth}
use Rattle.ovs_wire.specs.Frames.{IsSpace, IsBalanced, IsWithinLimits, IsObject, IsPadded, IsBare, AreFrames, Rest}
use Rattle.ovs_wire.proofs.Depths.{Spot, spot, past, walk, depth_is}
use Rattle.ovs_wire.proofs.Cuts.{cut, only_object, spaces_only}
use Rattle.ovs_wire.proofs.Lexing.{AreSpaces, AreGood, Runs, Opened, opens, runs}
use Rattle.ovs_wire.proofs.Levels.{closes_object, closes_good, peak_object, Falls, falls, highest, highest_is}

pub all_spaces : (text : List ℕ) → AreSpaces text → All IsSpace text
all_spaces [] spaces = All-nil IsSpace
all_spaces (b ∷ text) spaces = All-cons IsSpace b text spaces.0 (all_spaces text spaces.1)

-- what follows the brace that opens an object
pub record Inside (rest : List ℕ) (ms : json.Members) : Type 0 where
  pub fall : Falls (spot Outside 1) rest
  pub high : highest (spot Outside 1) rest ≡ json_depth (json.object ms)

pub inside_of : (text : List ℕ) (ms : json.Members) (o : Opened text (members_tokens ms)) → Inside o.rest ms
inside_of text ms o =
    let closes = closes_object ms in
    let run = subst (λ ts. Runs o.rest ts (spot Outside 1)) o.tokens
    (runs o.rest 1 (subst AreGood (sym o.tokens) (closes_good 1 (members_tokens ms) closes))) in
    record {
      fall = falls o.rest (members_tokens ms) (spot Outside 1) run closes;
      high = omega (arith, highest_is o.rest (members_tokens ms) (spot Outside 1) run, peak_object ms);
    }

body_inside : (rest : List ℕ) (f : Falls (spot Outside 1) rest) (k : ℕ) → 0 < k → k < length (123 ∷ f.body)
    → 0 < depth (take k (123 ∷ f.body))
body_inside rest f zero more lt = absurd (omega arith)
body_inside rest f (suc k) more lt =
    omega (arith, f.inside k (omega arith), depth_is (take (suc k) (123 ∷ f.body)))

pub balanced_body : (rest : List ℕ) (f : Falls (spot Outside 1) rest) → IsBalanced (123 ∷ f.body)
balanced_body rest f = record {
  begins = (omega arith, refl);
  ends = sym (depth_is (123 ∷ f.body)) ∙ f.ends;
  inside = body_inside rest f;
}

-- the text of an object, and the object in it
pub record Spelled (text : List ℕ) : Type 0 where
  pub body : List ℕ
  pub padded : IsPadded text (123 ∷ body)
  pub balanced : IsBalanced (123 ∷ body)

pub spelled : (text : List ℕ) (ms : json.Members) → tokens text ≡ json_tokens (json.object ms) → Spelled text
spelled text ms e =
    let o = opens text (members_tokens ms) e in
    let f = (inside_of text ms o).fall in
    record {
      body = f.body;
      padded = record {
        before = o.before;
        after = f.tail;
        whole = o.whole ∙ ap (λ l. o.before ++ 123 ∷ l) f.whole;
        spaces = (all_spaces o.before o.spaces, all_spaces f.tail f.spaces);
      };
      balanced = balanced_body o.rest f;
    }

-- ---- text that is read as an object

mapped_no : {A B : Type 0} (f : A → Data) (o : Option A) (ms : Members) → ((a : A) → f a ≡ object ms → ⊥)
    → option_map f o ≡ Some (object ms) → B
mapped_no f None ms other e = absurd (cc (e))
mapped_no f (Some a) ms other e = absurd (other a (cc (e)))

is_object : (j : Json) (ms : Members) → of_json j ≡ Some (object ms) → (js : json.Members) × (j ≡ json.object js)
is_object json.null ms e = absurd (cc (e))
is_object (json.boolean b) ms e = absurd (cc (e))
is_object (json.number s) ms e = mapped_no number (number_of s) ms (λ n h. cc (h)) e
is_object (json.string s) ms e = absurd (cc (e))
is_object (json.array js) ms e = mapped_no array (of_items js) ms (λ n h. cc (h)) e
is_object (json.object js) ms e = (js, refl)

read_by : (text : List ℕ) (ms : Members) (o : Option (Json × List Token)) → value max_depth (tokens text) ≡ o
    → option_and_then of_json (option_and_then (λ p. if_last p.0 p.1) o) ≡ Some (object ms)
    → (js : json.Members) × (tokens text ≡ json_tokens (json.object js))
read_by text ms None h e = absurd (cc (e))
read_by text ms (Some (j, t ∷ ts)) h e = absurd (cc (e))
read_by text ms (Some (j, [])) h e =
    let is = is_object j ms e in (
      is.0,
      value-json_tokens_back max_depth (tokens text) [] j h ∙ append-nil (json_tokens j) ∙ ap json_tokens is.1,
    )

pub read_as_object : (text : List ℕ) (ms : Members) → read text ≡ Some (object ms) → Spelled text
read_as_object text ms e =
    let r = read_by text ms (value max_depth (tokens text)) refl e in spelled text r.0 r.1

-- ---- the limits of padded text

space_walk : (b : ℕ) → IsSpace b → past (spot Outside 0) b ≡ spot Outside 0
space_walk b (inl e) = ap (past (spot Outside 0)) e
space_walk b (inr (inl e)) = ap (past (spot Outside 0)) e
space_walk b (inr (inr (inl e))) = ap (past (spot Outside 0)) e
space_walk b (inr (inr (inr e))) = ap (past (spot Outside 0)) e

spaces_walk : (s : List ℕ) → All IsSpace s → walk (spot Outside 0) s ≡ spot Outside 0
spaces_walk [] spaces = refl
spaces_walk (b ∷ s) spaces = ap (λ p. walk p s) (space_walk b (All-head IsSpace b s spaces)) ∙
    spaces_walk s (All-tail IsSpace b s spaces)

depth_after_spaces : (s x : List ℕ) → All IsSpace s → depth (s ++ x) ≡ depth x
depth_after_spaces s x spaces = sym (depth_is (s ++ x)) ∙ ap (λ (p : Spot). p.level)
    (fold-append past (spot Outside 0) s x ∙ ap (λ p. walk p x) (spaces_walk s spaces)) ∙ depth_is x

-- the beginning of what is padded is as deep as the padded text there
nests_in : (bytes o : List ℕ) (k n : ℕ) → IsPadded bytes o → k ≤ length o
    → ((i : ℕ) → depth (take i bytes) ≤ n) → depth (take k o) ≤ n
nests_in bytes o k n is le nests =
    let i = length is.before + k in
    let front : take i bytes ≡ is.before ++ take k o =
    ap (take i) is.whole ∙ take-append-add is.before (o ++ is.after) k ∙ ap (λ l. is.before ++ l)
    (take-append-le k o is.after le) in
    omega (arith, nests i, ap depth front, depth_after_spaces is.before (take k o) is.spaces.0)

pub limits_in : {most : ℕ} (bytes o : List ℕ) → IsPadded bytes o → IsWithinLimits most bytes → IsWithinLimits most o
limits_in bytes o is limits = record {
  nests = λ k. ⊎_elim (λ (lt : k < length o). nests_in bytes o k most_nesting is (omega (arith, lt)) limits.nests)
      (λ (le : length o ≤ k). subst (λ (l : List ℕ). depth l ≤ most_nesting) (take-length o ∙ sym (take_all k o le))
      (nests_in bytes o (length o) most_nesting is (omega arith) limits.nests)) (cases_lt k (length o));
  fits = omega (
    arith,
    limits.fits,
    ap length is.whole,
    length-append is.before (o ++ is.after),
    length-append o is.after,
  );
}

-- padded objects are one frame
pub padded_frames : {most : ℕ} (bytes o : List ℕ) → IsPadded bytes o → IsObject most o → AreFrames most bytes (o ∷ []) (Rest [])
padded_frames {most} bytes o is whole =
    subst (λ (l : List ℕ). AreFrames most l (o ∷ []) (Rest [])) (sym is.whole)
    (cut is.before (o ++ is.after) [] (o ∷ []) [] (Rest []) (spaces_only is.before is.spaces.0)
    (cut o is.after (o ∷ []) [] [] (Rest []) (only_object o whole) (spaces_only is.after is.spaces.1)))

-- ---- text with no white space around it is the object itself

none_before : (before x : List ℕ) → All IsSpace before → (IsSpace (slice_index (before ++ x) 0) → ⊥) → before ≡ []
none_before [] x spaces other = refl
none_before (b ∷ before) x spaces other = absurd (other (All-head IsSpace b before spaces))

none_after : (x after : List ℕ) → All IsSpace after
    → (IsSpace (slice_index (x ++ after) (length (x ++ after) - 1)) → ⊥) → after ≡ []
none_after x [] spaces other = refl
none_after x (b ∷ after) spaces other =
    let n = length (x ++ b ∷ after) in
    let len : n ≡ length x + length (b ∷ after) = length-append x (b ∷ after) in
    let last : get_or (x ++ b ∷ after) (n - 1) 0 ≡ get_or (b ∷ after) (n - 1 - length x) 0 =
    get_or-append_right x (b ∷ after) (length x) (n - 1) 0 refl (omega arith) in
    absurd (other (subst IsSpace (sym last)
    (All-get_or IsSpace (b ∷ after) (n - 1 - length x) 0 (omega arith) spaces)))

pub bare_is : (bytes o : List ℕ) → IsPadded bytes o → IsBare bytes → bytes ≡ o
bare_is bytes o is bare =
    let before = none_before is.before (o ++ is.after) is.spaces.0
    (λ h. bare.0 (subst (λ (l : List ℕ). IsSpace (slice_index l 0)) (sym is.whole) h)) in
    let whole : bytes ≡ o ++ is.after = is.whole ∙ ap (λ l. l ++ (o ++ is.after)) before in
    let after = none_after o is.after is.spaces.1
    (λ h. bare.1 (subst (λ (l : List ℕ). IsSpace (slice_index l (length l - 1))) (sym whole) h)) in
    whole ∙ ap (λ l. o ++ l) after ∙ append-nil o
