-- What is written for a JSON object is balanced, and nests as deep as the object.
use Rattle.std.proofs.Common.{◌≡◌, ℕ, suc, ◌≤◌, Bool, true, false, inl, inr, List, [], ◌∷◌, ◌++◌, take, slice_index, zero, All, refl, sym, ap, ◌∙◌, subst, arith, append-nil, append_assoc, Some, codes, IsUtf8}
use Rattle.std.proofs.lemmas.Bool.{false≢true}
use Rattle.std.proofs.lemmas.List.Elements.{All-head, All-tail}
use Rattle.json.specs.Token.{Token}
use Rattle.json.specs.Lex.{tokens}
use Rattle.json.specs.Json as json
use Rattle.json.specs.Json.{Json}
use Rattle.json.specs.Tree as tree
use Rattle.json.specs.Tree.{json_tokens, members_tokens}
use Rattle.json.specs.Print.{print, print_from, separator, token_text, ends}
use Rattle.serde_json.specs.Data.{Data, null, boolean, number, string, array, object, Items, no_items, item, Members, no_members, member, depth as data_depth, items_depth, members_depth}
use Rattle.serde_json.specs.Written.{outline, items_outline, members_outline, blank, blank_items, blank_members, IsInOrder}
use Rattle.serde_json.specs.Read.{read, max_depth}
use Rattle.serde_json.specs.View.{items_of}
use Rattle.ovs_wire.specs.declared.message.Message.{Message}
use Rattle.ovs_wire.specs.declared.message.Message.TheVariants.{Request, Reply, Notice}
use Rattle.ovs_wire.specs.Message.{Spells, json, IsWritten}
use Rattle.ovs_wire.specs.Depth.{Outside, depth}
use Rattle.ovs_wire.specs.Frames.{IsSpace, IsBalanced, IsNested}
use Rattle.ovs_wire.proofs.Depths.{spot, depth_is}
use Rattle.ovs_wire.proofs.Lexing.{level_past, is_closing, AreSpaces, opens}
use Rattle.ovs_wire.proofs.Levels.{Closes, closes_object, highest, never_higher, reached}
use Rattle.ovs_wire.proofs.Cuts.{no_space}
use Rattle.ovs_wire.proofs.Spelled.{inside_of, balanced_body, all_spaces}

-- ---- the JSON of the text nests as deep as the data

mutual
  blank_depth : (j : Json) → tree.depth (blank j) ≡ tree.depth j
  blank_depth json.null = refl
  blank_depth (json.boolean b) = refl
  blank_depth (json.number s) = refl
  blank_depth (json.string s) = refl
  blank_depth (json.array js) = ap suc (blank_items_depth js)
  blank_depth (json.object ms) = ap suc (blank_members_depth ms)

  blank_items_depth : (js : json.Items) → tree.items_depth (blank_items js) ≡ tree.items_depth js
  blank_items_depth json.no_items = refl
  blank_items_depth (json.item j js) = omega (arith, blank_depth j, blank_items_depth js)

  blank_members_depth : (ms : json.Members) → tree.members_depth (blank_members ms) ≡ tree.members_depth ms
  blank_members_depth json.no_members = refl
  blank_members_depth (json.member k j ms) = omega (arith, blank_depth j, blank_members_depth ms)

mutual
  outline_depth : (d : Data) → tree.depth (outline d) ≡ data_depth d
  outline_depth null = refl
  outline_depth (boolean b) = refl
  outline_depth (number n) = refl
  outline_depth (string s) = refl
  outline_depth (array ds) = ap suc (outline_items_depth ds)
  outline_depth (object ms) = ap suc (outline_members_depth ms)

  outline_items_depth : (ds : Items) → tree.items_depth (items_outline ds) ≡ items_depth ds
  outline_items_depth no_items = refl
  outline_items_depth (item d ds) = omega (arith, outline_depth d, outline_items_depth ds)

  outline_members_depth : (ms : Members) → tree.members_depth (members_outline ms) ≡ members_depth ms
  outline_members_depth no_members = refl
  outline_members_depth (member k d ms) = omega (arith, outline_depth d, outline_members_depth ms)

-- the JSON of an object's text is an object
object_of : (j : Json) (ms : Members) → blank j ≡ outline (object ms) → (js : json.Members) × (j ≡ json.object js)
object_of json.null ms e = absurd (cc (e))
object_of (json.boolean b) ms e = absurd (cc (e))
object_of (json.number s) ms e = absurd (cc (e))
object_of (json.string s) ms e = absurd (cc (e))
object_of (json.array js) ms e = absurd (cc (e))
object_of (json.object js) ms e = (js, refl)

-- ---- no white space stands at the end

-- the last byte, or this one where there is none
abbrev final : ℕ → List ℕ → ℕ
final b [] = b
final b (c ∷ text) = final c text

final_append : (b c : ℕ) (x y : List ℕ) → final b (x ++ c ∷ y) ≡ final c y
final_append b c [] y = refl
final_append b c (d ∷ x) y = final_append d c x y

final_space : (b : ℕ) (s : List ℕ) → IsSpace b → All IsSpace s → IsSpace (final b s)
final_space b [] here spaces = here
final_space b (c ∷ s) here spaces =
    final_space c s (All-head IsSpace c s spaces) (All-tail IsSpace c s spaces)

regroup : (a b c d : List ℕ) → a ++ (b ++ (c ++ d)) ≡ (a ++ (b ++ c)) ++ d
regroup a b c d = simp append_assoc

-- a last byte, and that it is no white space
record EndsWell (text : List ℕ) : Type 0 where
  front : List ℕ
  last : ℕ
  whole : text ≡ front ++ last ∷ []
  no_space : IsSpace last → ⊥

last_token : (c : Bool) (t : Token) → is_closing t ≡ true → EndsWell (print_from c (t ∷ []))
unfolding print_from
last_token c Token.end_object closing =
    record { front = separator c Token.end_object; last = 125; whole = refl; no_space = no_space 125 (omega arith) }
last_token c Token.end_array closing =
    record { front = separator c Token.end_array; last = 93; whole = refl; no_space = no_space 93 (omega arith) }
last_token c t closing = absurd (false≢true closing)

print_ends : (c : Bool) (n : ℕ) (ts : List Token) → Closes n ts → EndsWell (print_from c ts)
unfolding print_from
print_ends c n [] closes = absurd closes
print_ends c n (t ∷ ts) (above, good, inl last) =
    subst (λ (l : List Token). EndsWell (print_from c (t ∷ l))) (sym last.2) (last_token c t last.0)
print_ends c n (t ∷ ts) (above, good, inr more) =
    let later = print_ends (ends t) (level_past t n) ts more in
    record {
      front = separator c t ++ (token_text t ++ later.front);
      last = later.last;
      whole = ap (λ l. separator c t ++ (token_text t ++ l)) later.whole ∙ regroup (separator c t) (token_text t)
          later.front (later.last ∷ []);
      no_space = later.no_space;
    }

-- so no white space is left over
no_tail : (body tail : List ℕ) → EndsWell (body ++ tail) → AreSpaces tail → tail ≡ []
no_tail body [] ends spaces = refl
no_tail body (b ∷ s) ends spaces = absurd (ends.no_space (subst IsSpace
    (sym (final_append 0 b body s) ∙ ap (final 0) ends.whole ∙ final_append 0 ends.last ends.front [])
    (final_space b s spaces.0 (all_spaces s spaces.1))))

-- ---- the text

no_space_before : (before rest text : List ℕ) → before ++ 123 ∷ rest ≡ 123 ∷ text → AreSpaces before → rest ≡ text
no_space_before [] rest text e spaces = cc (e)
no_space_before (b ∷ before) rest text e spaces =
    absurd (no_space 123 (omega arith) (subst IsSpace (ap (λ l. slice_index l 0) e) spaces.0))

-- what is printed for the tokens of an object
printed : (text : List ℕ) (ts : List Token) → text ≡ print (tokens text) → tokens text ≡ Token.begin_object ∷ ts
    → text ≡ 123 ∷ print_from false ts
unfolding print_from
printed text ts is e = is ∙ ap print e

nests_at_most : (rest : List ℕ) (k : ℕ) → depth (take k (123 ∷ rest)) ≤ highest (spot Outside 1) rest
nests_at_most rest zero = omega arith
nests_at_most rest (suc k) = omega (arith, never_higher rest (spot Outside 1) k, depth_is (take (suc k) (123 ∷ rest)))

nests : (rest : List ℕ) (n : ℕ) → highest (spot Outside 1) rest ≡ n → IsNested (123 ∷ rest) n
nests rest n high =
    let top = reached rest (spot Outside 1) in
    record {
      at_most = λ k. omega (arith, nests_at_most rest k, high);
      reached = (suc top.0, sym (depth_is (take (suc top.0) (123 ∷ rest))) ∙ top.1 ∙ high);
    }

by_tokens : (text : List ℕ) (js : json.Members) → text ≡ print (tokens text)
    → tokens text ≡ json_tokens (json.object js) → IsBalanced text × IsNested text (tree.depth (json.object js))
by_tokens text js is e =
    let o = opens text (members_tokens js) e in
    let i = inside_of text js o in
    let first = printed text (members_tokens js) is e in
    let same = no_space_before o.before o.rest (print_from false (members_tokens js)) (sym o.whole ∙ first) o.spaces in
    let none = no_tail i.fall.body i.fall.tail
    (subst EndsWell (sym same ∙ i.fall.whole) (print_ends false 1 (members_tokens js) (closes_object js)))
    i.fall.spaces in
    let rest : o.rest ≡ i.fall.body = i.fall.whole ∙ ap (λ l. i.fall.body ++ l) none ∙ append-nil i.fall.body in
    let whole : text ≡ 123 ∷ o.rest = first ∙ ap (λ l. 123 ∷ l) (sym same) in (
      subst IsBalanced (sym (whole ∙ ap (λ l. 123 ∷ l) rest)) (balanced_body o.rest i.fall),
      subst (λ (l : List ℕ). IsNested l (tree.depth (json.object js))) (sym whole)
          (nests o.rest (tree.depth (json.object js)) i.high),
    )

pub written : (text : List ℕ) (ms : Members) → text ≡ print (tokens text) → IsInOrder text (object ms)
    → IsBalanced text × IsNested text (data_depth (object ms))
written text ms is order =
    let j = object_of order.0 ms order.2 in
    let deep : tree.depth (json.object j.0) ≡ data_depth (object ms) =
    sym (ap tree.depth j.1) ∙ sym (blank_depth order.0) ∙ ap tree.depth order.2 ∙ outline_depth (object ms) in
    let r = by_tokens text j.0 is (order.1 ∙ ap json_tokens j.1) in
    (r.0, subst (IsNested text) deep r.1)

json_is_object : (m : Message) → (ms : Members) × (json m ≡ object ms)
json_is_object (Request method params id) = (
  member (codes "id") id
      (member (codes "method") (string method) (member (codes "params") (array (items_of params)) no_members)),
  refl,
)
json_is_object (Notice method params) = (
  member (codes "id") null
      (member (codes "method") (string method) (member (codes "params") (array (items_of params)) no_members)),
  refl,
)
json_is_object (Reply result error id) = (
  member (codes "error") error (member (codes "id") id (member (codes "result") result no_members)),
  refl,
)

-- what is printed for the JSON of a message
pub message_written : (m : Message) (d : Data) (text : List ℕ) → d ≡ json m → Spells (json m) m → IsUtf8 text
    → text ≡ print (tokens text) → IsInOrder text d → (data_depth d ≤ max_depth → read text ≡ Some d)
    → IsWritten m text
message_written m d text same spells utf8 printed order reads =
    let o = json_is_object m in
    let w = written text o.0 printed (subst (IsInOrder text) (same ∙ o.1) order) in
    record {
      utf8 = utf8;
      balanced = w.0;
      nested = subst (IsNested text) (ap data_depth (sym o.1)) w.1;
      says = λ nests. (json m, (utf8, reads (omega (arith, nests, ap data_depth same)) ∙ ap Some same), spells);
    }
