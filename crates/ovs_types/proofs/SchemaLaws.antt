-- What is read as a schema is spelled so, and what is spelled so is read.
use Rattle.std.proofs.Common.{◌≡◌, ℕ, zero, suc, ◌≤◌, List, [], ◌∷◌, Bool, true, false, cond, Option, Some, None, Ok, Err, refl, sym, ap, subst, ◌∙◌, inl, inr, ◌==◌, arith}
use Rattle.std.proofs.lemmas.Bool.{eqb-true, eqb-false, ne_eqb}
use Rattle.std.specs.Prelude.{codes, map, option_and_then, nat_eq, IfOk, ⊤, ◌⊎◌, if◌then◌else◌}
use Rattle.std.specs.Cmp.Lexicographic.{bytes_decides, slice_cmp}
use Rattle.std.specs.Prelude.{string_bytes}
use Rattle.std.specs.String.{string_cmp}
use Rattle.std.specs.Map.{keys_of}
use Rattle.std.specs.List.{AllByRecursion}
use Rattle.std.specs.List.Sorted.{IsStrictlySortedBy}
use Rattle.std.specs.Ordering.{nat_cmp}
use Rattle.std.specs.declared.cmp.Ordering.TheVariants.{Less}
use Rattle.std.specs.declared.alloc.Global.{Global}
use Rattle.serde_json.specs.View.{members_view}
use Rattle.serde_json.specs.declared.value.Value.{Value}
use Rattle.ovs_types.specs.Names.{IsAscendingBy, AreNames}
use Rattle.serde_json.specs.Data.{unsigned, negative, float, Data, null, boolean, number, string, array, object, Members, no_members, member}
use Rattle.serde_json.specs.Find.{get, as_str, as_object, as_number, as_u64}
use Rattle.ovs_data.specs.declared.column.Column.{Column}
use Rattle.ovs_data.specs.declared.atom.AtomKind.{AtomKind}
use Rattle.ovs_data.specs.declared.atom.AtomKind.TheVariants.{Integer, Boolean, String, Uuid}
use Rattle.ovs_types.specs.declared.schema.NamedColumn.{NamedColumn}
use Rattle.ovs_types.specs.declared.schema.Table.{Table}
use Rattle.ovs_types.specs.declared.schema.Description.{Description}
use Rattle.ovs_types.specs.declared.schema.error.SchemaError.TheVariants as faults
use Rattle.ovs_json.specs.FirstFault.{read_all}
use Rattle.ovs_json.specs.Members.{EachSpells}
use Rattle.ovs_types.specs.SchemaFaults.{Read, rank}
use Rattle.ovs_types.specs.Names.{is_id, is_name}
use Rattle.std.specs.Prelude as std
use Rattle.ovs_json.proofs.Steps.{map_found, test_found, object_part, string_part}
use Rattle.ovs_json.proofs.FaultOrder.{both_found, all_found, all_only}
use Rattle.ovs_types.specs.SchemaReading.{both, is, needed, kind_named, read_kind, read_base, read_key, read_value, least_of, read_least, most_of, read_most, read_kinds, read_bounds, read_object, scalar, read_type, read_column, checked_name, read_named_column, read_columns, columns_in, read_table, read_tables, tables_in, checked_id, database_name, version, read_description}
use Rattle.ovs_types.specs.SchemaSpelling.{name_of, IsBase, IsValue, IsLeast, IsMost, IsType, IsColumn, SpellsColumn, SpellsTable, Spells}

-- ---- parts

abbrev fine : {X : Type 0} → X → Read X
fine x = Ok x

needed_found : {X Y : Type 0} (read : X → Read Y) (o : Option X) (y : Y) → needed read o ≡ Ok y → (x : X) × (o ≡ Some x) × (read x ≡ Ok y)
needed_found read None y e = absurd cc
needed_found read (Some x) y e = (x, refl, e)

-- ---- kinds

named_by : (s w : List ℕ) (k m : AtomKind) (rest : Read AtomKind) (b : Bool) → is s w ≡ b → w ≡ name_of k → cond b (Ok k) rest ≡ Ok m → (rest ≡ Ok m → s ≡ name_of m) → s ≡ name_of m
named_by s w k m rest true e n h others = let same : k ≡ m = cc in (bytes_decides s w).0 e ∙ n ∙ ap name_of same
named_by s w k m rest false e n h others = others h

no_kind : (b : Bool) (s : List ℕ) (m : AtomKind) → cond b (Err faults.Real) (Err faults.BadShape) ≡ fine m → s ≡ name_of m
no_kind true s m e = absurd cc
no_kind false s m e = absurd cc

pub kind_found : (s : List ℕ) (m : AtomKind) → kind_named s ≡ Ok m → s ≡ name_of m
kind_found s m e =
    named_by s (codes "integer") Integer m _ _ refl refl e (λ e1.
    named_by s (codes "boolean") Boolean m _ _ refl refl e1 (λ e2.
    named_by s (codes "string") String m _ _ refl refl e2 (λ e3.
    named_by s (codes "uuid") Uuid m _ _ refl refl e3 (λ e4. no_kind _ s m e4))))

pub kind_only : (m : AtomKind) → kind_named (name_of m) ≡ Ok m
kind_only Integer = refl
kind_only Boolean = refl
kind_only String = refl
kind_only Uuid = refl

base_found : (d : Data) (k : AtomKind) → read_base d ≡ Ok k → IsBase d k
base_found (string s) k e = inl (ap string (kind_found s k e))
base_found null k e = absurd cc
base_found (boolean b) k e = absurd cc
base_found (number n) k e = absurd cc
base_found (array ds) k e = absurd cc
base_found (object ms) k e =
    let p = needed_found read_kind (get (codes "type") (object ms)) k e in
    let q = needed_found kind_named (as_str p.0) k p.2 in
    inr (string_part _ _ (ap (option_and_then as_str) p.1 ∙ q.1) ∙ ap (λ s. Some (string s)) (kind_found q.0 k q.2))

base_only : (d : Data) (k : AtomKind) → IsBase d k → read_base d ≡ Ok k
base_only d k (inl e) = rw e (kind_only k)
base_only null k (inr e) = absurd cc
base_only (boolean b) k (inr e) = absurd cc
base_only (number n) k (inr e) = absurd cc
base_only (string s) k (inr e) = absurd cc
base_only (array ds) k (inr e) = absurd cc
base_only (object ms) k (inr e) = rw e (kind_only k)

value_found : (o : Option Data) (v : Option AtomKind) → read_value o ≡ Ok v → IsValue o v
value_found None v e = cc
value_found (Some d) v e = let p = map_found Some (read_base d) v e in (p.0, base_found d p.0 p.1, p.2)

value_only : (o : Option Data) (v : Option AtomKind) → IsValue o v → read_value o ≡ Ok v
value_only None v e = ap fine (sym e)
value_only (Some d) v (k, base, v_is) = rw (base_only d k base, v_is) refl

-- ---- bounds

abbrev whole : Data → Option ℕ
whole d = option_and_then as_u64 (as_number d)

whole_of : (d : Data) (n : ℕ) → whole d ≡ Some n → d ≡ number (unsigned n)
whole_of null n e = absurd cc
whole_of (boolean b) n e = absurd cc
whole_of (number (unsigned m)) n e = cc
whole_of (number (negative z)) n e = absurd cc
whole_of (number (float x)) n e = absurd cc
whole_of (string s) n e = absurd cc
whole_of (array ds) n e = absurd cc
whole_of (object ms) n e = absurd cc

least_by : (d : Data) (n : ℕ) (b : Bool) (is0 is1 : Bool) → d ≡ number (unsigned n) → n == 0 ≡ is0 → n == 1 ≡ is1 → cond is0 (fine true) (cond is1 (Ok false) (Err faults.BadBounds)) ≡ Ok b → IsLeast (Some d) b
least_by d n b true is1 spelled e0 e1 e = let b_is : b ≡ true = cc in rw (b_is, spelled, eqb-true n 0 e0) refl
least_by d n b false true spelled e0 e1 e = let b_is : b ≡ false = cc in rw (b_is, spelled, eqb-true n 1 e1) refl
least_by d n b false false spelled e0 e1 e = absurd cc

least_from : (d : Data) (o : Option ℕ) (b : Bool) → whole d ≡ o → least_of o ≡ Ok b → IsLeast (Some d) b
least_from d None b spelled e = absurd cc
least_from d (Some n) b spelled e = least_by d n b _ _ (whole_of d n spelled) refl refl e

pub least_found : (o : Option Data) (b : Bool) → read_least o ≡ Ok b → IsLeast o b
least_found None b e = cc
least_found (Some d) b e = least_from d (whole d) b refl e

pub least_only : (o : Option Data) (b : Bool) → IsLeast o b → read_least o ≡ Ok b
least_only None b e = ap fine (sym e)
least_only (Some d) true e = rw e refl
least_only (Some d) false e = rw e refl

one_or_more : (n : ℕ) → (n ≡ 0 → ⊥) → 1 ≤ n
one_or_more zero h = absurd (h refl)
one_or_more (suc n) h = omega arith

most_by : (d : Data) (n : ℕ) (m : Option ℕ) (is0 : Bool) → d ≡ number (unsigned n) → n == 0 ≡ is0 → cond is0 (Err faults.BadBounds) (fine (Some n)) ≡ Ok m → IsMost (Some d) m
most_by d n m true spelled e0 e = absurd cc
most_by d n m false spelled e0 e = let m_is : m ≡ Some n = cc in subst (IsMost (Some d)) (sym m_is) (one_or_more n (eqb-false n 0 e0), spelled)

most_from : (d : Data) (o : Option ℕ) (m : Option ℕ) → whole d ≡ o → most_of o ≡ Ok m → IsMost (Some d) m
most_from d None m spelled e = absurd cc
most_from d (Some n) m spelled e = most_by d n m _ (whole_of d n spelled) refl e

abbrev no_limit : Read (Option ℕ)
no_limit = Ok None

unlimited_by : (s : List ℕ) (m : Option ℕ) (b : Bool) → is s (codes "unlimited") ≡ b → cond b no_limit (Err faults.BadBounds) ≡ Ok m → IsMost (Some (string s)) m
unlimited_by s m true e h = let m_is : m ≡ None = cc in subst (IsMost (Some (string s))) (sym m_is) (ap string ((bytes_decides s (codes "unlimited")).0 e))
unlimited_by s m false e h = absurd cc

pub most_found : (o : Option Data) (m : Option ℕ) → read_most o ≡ Ok m → IsMost o m
most_found None m e = cc
most_found (Some (string s)) m e = unlimited_by s m _ refl e
most_found (Some (number n)) m e = most_from (number n) (whole (number n)) m refl e
most_found (Some null) m e = absurd cc
most_found (Some (boolean b)) m e = absurd cc
most_found (Some (array ds)) m e = absurd cc
most_found (Some (object ms)) m e = absurd cc

at_least_one : (n : ℕ) → 1 ≤ n → most_of (Some n) ≡ Ok (Some n)
at_least_one n h = rw (ne_eqb n 0 (λ e. absurd (omega (arith, h, e)))) refl

pub most_only : (o : Option Data) (m : Option ℕ) → IsMost o m → read_most o ≡ Ok m
most_only None m e = ap fine (sym e)
most_only (Some d) None e = rw e refl
most_only (Some d) (Some n) e = rw e.1 (at_least_one n e.0)

-- ---- columns

object_found : (d : Data) (c : Column) → read_object d ≡ Ok c → IsType d c
object_found d c e =
    let p = map_found (λ p. record { key = p.0.0; value = p.0.1; may_be_empty = p.1.0; most = p.1.1 }) (both (read_kinds d) (read_bounds d)) c e in
    let q = both_found rank (read_kinds d) (read_bounds d) p.0 p.1 in
    let r = both_found rank (read_key (get (codes "key") d)) (read_value (get (codes "value") d)) p.0.0 q.0 in
    let s = both_found rank (read_least (get (codes "min") d)) (read_most (get (codes "max") d)) p.0.1 q.1 in
    let key = needed_found read_base (get (codes "key") d) p.0.0.0 r.0 in
    subst (IsType d) (sym p.2) (inr (key.0, key.1, base_found key.0 p.0.0.0 key.2, value_found _ _ r.1, least_found _ _ s.0, most_found _ _ s.1))

type_found : (d : Data) (c : Column) → read_type d ≡ Ok c → IsType d c
type_found (string s) c e =
    let p = map_found scalar (kind_named s) c e in
    subst (IsType (string s)) (sym p.2) (inl (ap string (kind_found s p.0 p.1), refl, refl, refl))
type_found null c e = object_found null c e
type_found (boolean b) c e = object_found (boolean b) c e
type_found (number n) c e = object_found (number n) c e
type_found (array ds) c e = object_found (array ds) c e
type_found (object ms) c e = object_found (object ms) c e

type_only : (d : Data) (c : Column) → IsType d c → read_type d ≡ Ok c
type_only d c (inl (spelled, value, least, most)) = rw spelled (rw (kind_only c.key) (ap fine (rw (value, least, most) refl)))
type_only (object ms) c (inr (key, has_key, base, value, least, most)) =
    rw (has_key, base_only key c.key base, value_only _ c.value value, least_only _ c.may_be_empty least, most_only _ c.most most) refl
type_only (string s) c (inr (key, has_key, base, value, least, most)) = absurd cc
type_only null c (inr (key, has_key, base, value, least, most)) = absurd cc
type_only (boolean b) c (inr (key, has_key, base, value, least, most)) = absurd cc
type_only (number n) c (inr (key, has_key, base, value, least, most)) = absurd cc
type_only (array ds) c (inr (key, has_key, base, value, least, most)) = absurd cc

column_found : (d : Data) (c : Column) → read_column d ≡ Ok c → IsColumn d c
column_found d c e = let p = needed_found read_type (get (codes "type") d) c e in (p.0, p.1, type_found p.0 c p.2)

column_only : (d : Data) (c : Column) → IsColumn d c → read_column d ≡ Ok c
column_only d c (t, has, typed) = rw has (type_only t c typed)

-- ---- tables

named_found : (s : List ℕ) (d : Data) (c : NamedColumn) → read_named_column s d ≡ Ok c → SpellsColumn s d c
named_found s d c e =
    let p = map_found (λ p. record { name = s; column = p.1 }) (both (checked_name s) (read_column d)) c e in
    let q = both_found rank (checked_name s) (read_column d) p.0 p.1 in
    subst (SpellsColumn s d) (sym p.2) (refl, (test_found _ _ _ _ q.0).0, column_found d p.0.1 q.1)

named_only : (s : List ℕ) (d : Data) (c : NamedColumn) → SpellsColumn s d c → read_named_column s d ≡ Ok c
named_only s d c (name, good, column) = rw (good, column_only d c.column column, ← name) refl

table_found : (s : List ℕ) (d : Data) (t : Table) → read_table s d ≡ Ok t → SpellsTable s d t
table_found s d t e =
    let p = map_found (λ p. record { name = s; columns = p.1 }) (both (checked_name s) (columns_in d)) t e in
    let q = both_found rank (checked_name s) (columns_in d) p.0 p.1 in
    let r = needed_found read_columns (option_and_then as_object (get (codes "columns") d)) p.0.1 q.1 in
    subst (SpellsTable s d) (sym p.2) (r.0, refl, (test_found _ _ _ _ q.0).0, object_part _ _ r.1, all_found rank read_named_column SpellsColumn named_found r.0 p.0.1 r.2)

table_only : (s : List ℕ) (d : Data) (t : Table) → SpellsTable s d t → read_table s d ≡ Ok t
table_only s d t (columns, name, good, has, each) = rw (good, has, all_only rank read_named_column SpellsColumn named_only columns t.columns each, ← name) refl

-- ---- schemas

pub found : (d : Data) (s : Description) → read_description d ≡ Ok s → Spells d s
found d s e =
    let p = map_found (λ p. record { name = p.0.0; tables = p.1 }) (both (both (database_name d) (version d)) (tables_in d)) s e in
    let q = both_found rank (both (database_name d) (version d)) (tables_in d) p.0 p.1 in
    let r = both_found rank (database_name d) (version d) p.0.0 q.0 in
    let name = needed_found checked_id (option_and_then as_str (get (codes "name") d)) p.0.0.0 r.0 in
    let checked = test_found (is_id name.0) name.0 p.0.0.0 faults.BadId name.2 in
    let versioned = needed_found (λ t. Ok tt) (option_and_then as_str (get (codes "version") d)) p.0.0.1 r.1 in
    let tables = needed_found read_tables (option_and_then as_object (get (codes "tables") d)) p.0.1 q.1 in
    subst (Spells d) (sym p.2) (
      tables.0,
      versioned.0,
      rw checked.1 (string_part _ _ name.1),
      rw checked.1 checked.0,
      string_part _ _ versioned.1,
      object_part _ _ tables.1,
      all_found rank read_table SpellsTable table_found tables.0 p.0.1 tables.2,
    )

pub only : (d : Data) (s : Description) → Spells d s → read_description d ≡ Ok s
only d s (tables, version, name, good, versioned, has, each) =
    rw (name, good, versioned, has, all_only rank read_table SpellsTable table_only tables s.tables each) refl

-- ---- names

abbrev Key : Type 0
Key = std.String Global

module _ {X : Type 0} (name : X → List ℕ) (read : List ℕ → Data → Read X) where
  -- an entry has the name of its member, which is no reserved one
  abbrev IsNamed : List ℕ → Data → X → Type 0
  IsNamed s d x = (name x ≡ s) × (is_name s ≡ true)

  before_all : (q : Key) (es : List (Key × Value)) (xs : List X) → AllByRecursion (λ y. string_cmp q y ≡ Less) (keys_of es) → EachSpells IsNamed (members_view es) xs
      → AllByRecursion (λ y. slice_cmp nat_cmp (string_bytes q) y ≡ Less) (map name xs)
  before_all q [] [] h s = tt
  before_all q [] (x ∷ xs) h s = absurd s
  before_all q (e ∷ es) [] h s = absurd s
  before_all q (e ∷ es) (x ∷ xs) h s = (rw s.0.0 h.0, before_all q es xs h.1 s.1)

  ascend_all : (es : List (Key × Value)) (xs : List X) → IsStrictlySortedBy string_cmp (keys_of es) → EachSpells IsNamed (members_view es) xs → IsAscendingBy name xs
  unfolding IsStrictlySortedBy
  ascend_all [] [] h s = tt
  ascend_all [] (x ∷ xs) h s = absurd s
  ascend_all (e ∷ es) [] h s = absurd s
  ascend_all (e ∷ es) (x ∷ xs) h s = (rw s.0.0 (before_all e.0 es xs h.0 s.1), ascend_all es xs h.1 s.1)

  named_all : (ms : Members) (xs : List X) → EachSpells IsNamed ms xs → AreNames name xs
  named_all no_members [] s = refl
  named_all no_members (x ∷ xs) s = absurd s
  named_all (member n d ms) [] s = absurd s
  named_all (member n d ms) (x ∷ xs) s = let good : is_name (name x) ≡ true = ap is_name s.0.0 ∙ s.0.1 in rw good (named_all ms xs s.1)

  module _ (named : (s : List ℕ) (d : Data) (x : X) → read s d ≡ Ok x → IsNamed s d x) where
    -- an object's names ascend, and so do those of what is read
    pub names_ascend : (es : List (Key × Value)) (xs : List X) → IsStrictlySortedBy string_cmp (keys_of es) → Ok xs ≡ read_all rank read (members_view es) → IsAscendingBy name xs
    names_ascend es xs h e = ascend_all es xs h (all_found rank read IsNamed named (members_view es) xs (sym e))

    pub are_names : (es : List (Key × Value)) (xs : List X) → Ok xs ≡ read_all rank read (members_view es) → AreNames name xs
    are_names es xs e = named_all (members_view es) xs (all_found rank read IsNamed named (members_view es) xs (sym e))

pub column_name : (s : List ℕ) (d : Data) (c : NamedColumn) → read_named_column s d ≡ Ok c → (c.name ≡ s) × (is_name s ≡ true)
column_name s d c e = let spelled = named_found s d c e in (spelled.0, spelled.1)

pub table_name : (s : List ℕ) (d : Data) (t : Table) → read_table s d ≡ Ok t → (t.name ≡ s) × (is_name s ≡ true)
table_name s d t e = let spelled = table_found s d t e in (spelled.1, spelled.2)
