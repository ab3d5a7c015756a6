-- Reading step by step, turned round: what led to a value that was read. For the readers of this crate and of those above it, whatever their faults are.
use Rattle.std.proofs.Common.{◌≡◌, ℕ, List, [], ◌∷◌, ◌++◌, Bool, true, false, cond, Option, Some, None, Result, Ok, Err, refl, sym, ap, subst, ◌∙◌}
use Rattle.std.specs.Prelude.{option_and_then}
use Rattle.std.specs.Option.{ok_or}
use Rattle.serde_json.specs.Data.{Num, Data, null, boolean, number, string, array, object, Items, no_items, item, Members, no_members, member}
use Rattle.serde_json.specs.Find.{as_str, as_array, as_object, as_number, as_bool}
use Rattle.ovs_json.specs.Results.{◌>>=◌, result_map}
use Rattle.ovs_json.specs.Items.{read_items, SpellsEach}
use Rattle.ovs_json.specs.Members.{read_each, Lead}

module _ {E : Type 0} where
  abbrev pub read_as : {X : Type 0} → X → Result X E
  read_as x = Ok x

  pub same_value : {X : Type 0} (x y : X) → read_as x ≡ read_as y → y ≡ x
  same_value x y e = cc

  -- a value comes of a first one
  pub bind_found : {A B : Type 0} (r : Result A E) (f : A → Result B E) (b : B) → (r >>= f) ≡ Ok b → (a : A) × (r ≡ Ok a) × (f a ≡ Ok b)
  bind_found (Ok a) f b e = (a, refl, e)
  bind_found (Err x) f b e = absurd cc

  pub map_found : {A B : Type 0} (f : A → B) (r : Result A E) (b : B) → result_map f r ≡ Ok b → (a : A) × (r ≡ Ok a) × (b ≡ f a)
  map_found f (Ok a) b e = (a, refl, cc)
  map_found f (Err x) b e = absurd cc

  pub ok_or_found : {X : Type 0} (o : Option X) (e : E) (x : X) → ok_or o e ≡ Ok x → o ≡ Some x
  ok_or_found None e x h = absurd cc
  ok_or_found (Some y) e x h = cc

  pub ok_or_fault : {X : Type 0} (o : Option X) (e f : E) → ok_or {T = X} o e ≡ Err f → (o ≡ None) × (e ≡ f)
  ok_or_fault None e f h = (refl, cc)
  ok_or_fault (Some y) e f h = absurd cc

  -- a test that lets a value through
  pub test_found : {X : Type 0} (b : Bool) (x y : X) (e : E) → cond b (read_as x) (Err e) ≡ Ok y → (b ≡ true) × (y ≡ x)
  test_found true x y e h = (refl, cc)
  test_found false x y e h = absurd cc

-- ---- items, one after the other

-- what was read before, and what is still read, as a loop has it
abbrev pub with_front : {X E : Type 0} → List X → Result (List X) E → Result (List X) E
with_front front read = read >>= λ xs. Ok (front ++ xs)

module _ {X E : Type 0} (read : Data → Result X E) (Spelled : Data → X → Type 0) where
  -- what the items are read as is what each of them spells
  pub items_found : ((d : Data) (x : X) → read d ≡ Ok x → Spelled d x) → (ds : Items) (xs : List X) → read_items read ds ≡ Ok xs → SpellsEach Spelled ds xs
  items_found found no_items xs e = subst (SpellsEach Spelled no_items) (sym (same_value [] xs e)) tt
  items_found found (item d ds) xs e =
      let one = bind_found (read d) (λ x. read_items read ds >>= λ ys. read_as (x ∷ ys)) xs e in
      let rest = bind_found (read_items read ds) (λ ys. read_as (one.0 ∷ ys)) xs one.2 in
      subst (SpellsEach Spelled (item d ds)) (sym (same_value (one.0 ∷ rest.0) xs rest.2)) (found d one.0 one.1, items_found found ds rest.0 rest.1)

  -- what each of the items spells is what they are read as
  pub items_only : ((d : Data) (x : X) → Spelled d x → read d ≡ Ok x) → (ds : Items) (xs : List X) → SpellsEach Spelled ds xs → read_items read ds ≡ Ok xs
  items_only only no_items [] h = refl
  items_only only no_items (x ∷ xs) h = absurd h
  items_only only (item d ds) [] h = absurd h
  items_only only (item d ds) (x ∷ xs) h = rw (only d x h.0, items_only only ds xs h.1) refl

-- ---- members, one after the other

module _ {S E : Type 0} (read : S → List ℕ → Data → Result S E) (Step : S → List ℕ → Data → S → Type 0) where
  -- what the members are read as is where they lead
  pub each_found : ((s : S) (name : List ℕ) (d : Data) (t : S) → read s name d ≡ Ok t → Step s name d t) → (s : S) (ms : Members) (t : S) → read_each read s ms ≡ Ok t → Lead Step s ms t
  each_found one s no_members t e = same_value s t e
  each_found one s (member name d ms) t e =
      let p = bind_found (read s name d) (λ next. read_each read next ms) t e in
      (p.0, one s name d p.0 p.1, each_found one p.0 ms t p.2)

  -- where the members lead is what they are read as
  pub each_only : ((s : S) (name : List ℕ) (d : Data) (t : S) → Step s name d t → read s name d ≡ Ok t) → (s : S) (ms : Members) (t : S) → Lead Step s ms t → read_each read s ms ≡ Ok t
  each_only one s no_members t e = ap Ok (sym e)
  each_only one s (member name d ms) t (next, step, rest) = rw (one s name d next step) (each_only one next ms t rest)

-- ---- JSON of one sort

pub object_of : (d : Data) (ms : Members) → as_object d ≡ Some ms → d ≡ object ms
object_of null ms e = absurd cc
object_of (boolean b) ms e = absurd cc
object_of (number n) ms e = absurd cc
object_of (string s) ms e = absurd cc
object_of (array ds) ms e = absurd cc
object_of (object ns) ms e = cc

pub array_of : (d : Data) (ds : Items) → as_array d ≡ Some ds → d ≡ array ds
array_of null ds e = absurd cc
array_of (boolean b) ds e = absurd cc
array_of (number n) ds e = absurd cc
array_of (string s) ds e = absurd cc
array_of (array es) ds e = cc
array_of (object ms) ds e = absurd cc

pub string_of : (d : Data) (s : List ℕ) → as_str d ≡ Some s → d ≡ string s
string_of null s e = absurd cc
string_of (boolean b) s e = absurd cc
string_of (number n) s e = absurd cc
string_of (string t) s e = cc
string_of (array ds) s e = absurd cc
string_of (object ms) s e = absurd cc

pub number_of : (d : Data) (n : Num) → as_number d ≡ Some n → d ≡ number n
number_of null n e = absurd cc
number_of (boolean b) n e = absurd cc
number_of (number m) n e = cc
number_of (string s) n e = absurd cc
number_of (array ds) n e = absurd cc
number_of (object ms) n e = absurd cc

pub boolean_of : (d : Data) (b : Bool) → as_bool d ≡ Some b → d ≡ boolean b
boolean_of null b e = absurd cc
boolean_of (boolean a) b e = cc
boolean_of (number n) b e = absurd cc
boolean_of (string s) b e = absurd cc
boolean_of (array ds) b e = absurd cc
boolean_of (object ms) b e = absurd cc

-- the same of a part that may be absent
pub part_found : {X : Type 0} (read : Data → Option X) (o : Option Data) (x : X) → option_and_then read o ≡ Some x → (d : Data) × (o ≡ Some d) × (read d ≡ Some x)
part_found read None x e = absurd cc
part_found read (Some d) x e = (d, refl, e)

pub object_part : (o : Option Data) (ms : Members) → option_and_then as_object o ≡ Some ms → o ≡ Some (object ms)
object_part o ms e = let p = part_found as_object o ms e in p.1 ∙ ap Some (object_of p.0 ms p.2)

pub string_part : (o : Option Data) (s : List ℕ) → option_and_then as_str o ≡ Some s → o ≡ Some (string s)
string_part o s e = let p = part_found as_str o s e in p.1 ∙ ap Some (string_of p.0 s p.2)
