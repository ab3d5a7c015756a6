-- The fault that reading a schema gives is the worst that the value has.
use Rattle.std.proofs.Common.{◌≡◌, ℕ, ◌≤◌, List, Bool, true, false, cond, Option, Some, None, Ok, Err, refl, sym, ap, subst, ◌∙◌, ◌==◌, arith, true≢false}
use Rattle.std.specs.Prelude.{codes, option_and_then, ◌≢◌, ◌⊎◌}
use Rattle.std.specs.Cmp.Lexicographic.{bytes_decides}
use Rattle.serde_json.specs.Data.{Data}
use Rattle.serde_json.specs.Find.{get, as_str, as_object, as_number, as_u64}
use Rattle.ovs_data.specs.declared.atom.AtomKind.{AtomKind}
use Rattle.ovs_data.specs.declared.atom.AtomKind.TheVariants.{Integer, Boolean, String, Uuid}
use Rattle.ovs_json.specs.FirstFault.{IsWorst}
use Rattle.ovs_json.specs.Members.{SomeMember}
use Rattle.ovs_json.specs.Results.{result_map}
use Rattle.ovs_json.proofs.FaultOrder.{map_worst, both_worst, all_worst, test_worst, spelled_worst}
use Rattle.ovs_types.specs.declared.schema.error.SchemaError.{SchemaError}
use Rattle.ovs_types.specs.declared.schema.error.SchemaError.TheVariants.{BadShape, BadId, Real, BadBounds, NoMemory}
use Rattle.ovs_types.specs.Names.{is_id, is_name}
use Rattle.ovs_types.specs.SchemaFaults.{Read, rank, InNeeded, InOptional, InTextOr, InKind, InBase, InLeast, InMost, InType, InName, InColumn, InTable, InId, HasFault}
use Rattle.ovs_types.specs.SchemaReading.{both, needed, optional, text_or, is, kind_named, read_kind, read_base, read_key, read_value, least_of, read_least, most_of, limit_named, read_most, read_kinds, read_bounds, read_object, scalar, read_type, read_column, checked_name, read_named_column, read_columns, columns_in, read_table, read_tables, tables_in, checked_id, database_name, version, read_description}
use Rattle.ovs_types.specs.SchemaSpelling.{name_of, IsLeast, IsMost}
use Rattle.ovs_types.proofs.SchemaLaws.{kind_found, kind_only, least_found, least_only, most_found, most_only}

abbrev Worst : {X : Type 0} → (SchemaError → Type 0) → Read X → Type 0
Worst Has r = IsWorst rank Has r

-- ---- parts

module _ {X Y : Type 0} (read : X → Read Y) (Has : SchemaError → X → Type 0) (each : (x : X) → Worst (λ e. Has e x) (read x)) where
  needed_worst : (o : Option X) → Worst (λ e. InNeeded Has e o) (needed read o)
  needed_worst None = (refl, λ f h. omega arith)
  needed_worst (Some x) = each x

  optional_worst : (absent : Y) (o : Option X) → Worst (λ e. InOptional Has e o) (optional absent read o)
  optional_worst absent None = λ e h. absurd h
  optional_worst absent (Some x) = each x

text_or_worst : {Y : Type 0} (read : List ℕ → Read Y) (Has : SchemaError → List ℕ → Type 0) (other : Read Y) (Other : SchemaError → Type 0)
    → ((s : List ℕ) → Worst (λ e. Has e s) (read s)) → Worst Other other → (o : Option (List ℕ)) → Worst (λ e. InTextOr (Has e) (Other e) o) (text_or read other o)
text_or_worst read Has other Other each rest None = rest
text_or_worst read Has other Other each rest (Some s) = each s

-- ---- kinds

-- no kind is called "real"
not_real : (k : AtomKind) → name_of k ≢ codes "real"
not_real Integer e = true≢false (sym ((bytes_decides (codes "integer") (codes "real")).1 e))
not_real Boolean e = true≢false (sym ((bytes_decides (codes "boolean") (codes "real")).1 e))
not_real String e = true≢false (sym ((bytes_decides (codes "string") (codes "real")).1 e))
not_real Uuid e = true≢false (sym ((bytes_decides (codes "uuid") (codes "real")).1 e))

past : (b : Bool) (k : AtomKind) (rest : Read AtomKind) (f : SchemaError) → cond b (Ok k) rest ≡ Err f → rest ≡ Err f
past true k rest f e = absurd cc
past false k rest f e = e

no_fault_of_name : (s : List ℕ) (k : AtomKind) → s ≡ name_of k → (e : SchemaError) → InKind e s → ⊥
no_fault_of_name s k named BadShape h = h.1 k named
no_fault_of_name s k named BadId h = h
no_fault_of_name s k named Real h = not_real k (sym named ∙ h)
no_fault_of_name s k named BadBounds h = h
no_fault_of_name s k named NoMemory h = h

real_first : (s : List ℕ) → s ≡ codes "real" → (f : SchemaError) → InKind f s → rank Real ≤ rank f
real_first s real BadShape h = absurd (h.0 real)
real_first s real BadId h = absurd h
real_first s real Real h = omega arith
real_first s real BadBounds h = absurd h
real_first s real NoMemory h = absurd h

abbrev no_kind : SchemaError → Read AtomKind
no_kind e = Err e

fault_by : (s : List ℕ) (b : Bool) (f : SchemaError) → is s (codes "real") ≡ b → ((k : AtomKind) → s ≢ name_of k) → cond b (no_kind Real) (no_kind BadShape) ≡ no_kind f → Worst (λ e. InKind e s) (no_kind f)
fault_by s true f test no_name e =
    let real : s ≡ codes "real" = (bytes_decides s (codes "real")).0 test in
    let same : Real ≡ f = cc in
    subst (λ g. Worst (λ h. InKind h s) (no_kind g)) same (real, real_first s real)
fault_by s false f test no_name e =
    let same : BadShape ≡ f = cc in
    subst (λ g. Worst (λ h. InKind h s) (no_kind g)) same
    ((λ real. true≢false (sym ((bytes_decides s (codes "real")).1 real) ∙ test), no_name), λ g h. omega arith)

kind_by : (s : List ℕ) (r : Read AtomKind) → kind_named s ≡ r → Worst (λ e. InKind e s) r
kind_by s (Ok k) e = no_fault_of_name s k (kind_found s k e)
kind_by s (Err f) e =
    let no_name : (k : AtomKind) → s ≢ name_of k = λ k named. (let clash = sym (ap kind_named named ∙ kind_only k) ∙ e in absurd cc) in
    fault_by s _ f refl no_name (past _ Uuid _ f (past _ String _ f (past _ Boolean _ f (past _ Integer _ f e))))

kind_worst : (s : List ℕ) → Worst (λ e. InKind e s) (kind_named s)
kind_worst s = kind_by s (kind_named s) refl

base_worst : (d : Data) → Worst (λ e. InBase e d) (read_base d)
base_worst d =
    text_or_worst kind_named InKind (needed read_kind (get (codes "type") d)) (λ e. InNeeded (λ f t. InNeeded InKind f (as_str t)) e (get (codes "type") d)) kind_worst
    (needed_worst read_kind (λ f t. InNeeded InKind f (as_str t)) (λ t. needed_worst kind_named InKind kind_worst (as_str t)) (get (codes "type") d)) (as_str d)

-- ---- bounds

two_tests : (a b : Bool) (e : SchemaError) → cond a (Ok true) (cond b (Ok false) (Err BadBounds)) ≡ Err e → e ≡ BadBounds
two_tests true b e h = absurd cc
two_tests false true e h = absurd cc
two_tests false false e h = cc

least_of_fault : (o : Option ℕ) (e : SchemaError) → least_of o ≡ Err e → e ≡ BadBounds
least_of_fault None e h = cc
least_of_fault (Some n) e h = two_tests (n == 0) (n == 1) e h

least_fault : (o : Option Data) (e : SchemaError) → read_least o ≡ Err e → e ≡ BadBounds
least_fault None e h = absurd cc
least_fault (Some d) e h = least_of_fault (option_and_then as_u64 (as_number d)) e h

least_worst : (o : Option Data) → Worst (λ e. InLeast e o) (read_least o)
least_worst o = spelled_worst rank BadBounds (IsLeast o) (read_least o) (least_fault o) (least_found o) (least_only o)

one_test : {X : Type 0} (b : Bool) (x y : Read X) (e : SchemaError) → (x ≡ Err e → e ≡ BadBounds) → (y ≡ Err e → e ≡ BadBounds) → cond b x y ≡ Err e → e ≡ BadBounds
one_test true x y e first second h = first h
one_test false x y e first second h = second h

most_of_fault : (o : Option ℕ) (e : SchemaError) → most_of o ≡ Err e → e ≡ BadBounds
most_of_fault None e h = cc
most_of_fault (Some n) e h = one_test (n == 0) (Err BadBounds) (Ok (Some n)) e (λ f. cc) (λ f. absurd cc) h

limit_fault : (s : List ℕ) (e : SchemaError) → limit_named s ≡ Err e → e ≡ BadBounds
limit_fault s e h = one_test (is s (codes "unlimited")) (Ok None) (Err BadBounds) e (λ f. absurd cc) (λ f. cc) h

most_by_text : (o : Option (List ℕ)) (n : Option ℕ) (e : SchemaError) → text_or limit_named (most_of n) o ≡ Err e → e ≡ BadBounds
most_by_text None n e h = most_of_fault n e h
most_by_text (Some s) n e h = limit_fault s e h

most_fault : (o : Option Data) (e : SchemaError) → read_most o ≡ Err e → e ≡ BadBounds
most_fault None e h = absurd cc
most_fault (Some d) e h = most_by_text (as_str d) (option_and_then as_u64 (as_number d)) e h

most_worst : (o : Option Data) → Worst (λ e. InMost e o) (read_most o)
most_worst o = spelled_worst rank BadBounds (IsMost o) (read_most o) (most_fault o) (most_found o) (most_only o)

-- ---- columns

value_worst : (o : Option Data) → Worst (λ e. InOptional InBase e o) (read_value o)
value_worst = optional_worst (λ d. result_map Some (read_base d)) InBase (λ d. map_worst rank (λ e. InBase e d) Some (read_base d) (base_worst d)) None

kinds_worst : (d : Data) → Worst (λ e. InNeeded InBase e (get (codes "key") d) ⊎ InOptional InBase e (get (codes "value") d)) (read_kinds d)
kinds_worst d =
    both_worst rank (λ e. InNeeded InBase e (get (codes "key") d)) (λ e. InOptional InBase e (get (codes "value") d)) (read_key (get (codes "key") d)) (read_value (get (codes "value") d))
    (needed_worst read_base InBase base_worst (get (codes "key") d)) (value_worst (get (codes "value") d))

bounds_worst : (d : Data) → Worst (λ e. InLeast e (get (codes "min") d) ⊎ InMost e (get (codes "max") d)) (read_bounds d)
bounds_worst d =
    both_worst rank (λ e. InLeast e (get (codes "min") d)) (λ e. InMost e (get (codes "max") d)) (read_least (get (codes "min") d)) (read_most (get (codes "max") d))
    (least_worst (get (codes "min") d)) (most_worst (get (codes "max") d))

abbrev InObject : Data → SchemaError → Type 0
InObject d e = (InNeeded InBase e (get (codes "key") d) ⊎ InOptional InBase e (get (codes "value") d)) ⊎ (InLeast e (get (codes "min") d) ⊎ InMost e (get (codes "max") d))

object_worst : (d : Data) → Worst (InObject d) (read_object d)
object_worst d =
    map_worst rank (InObject d) (λ p. record { key = p.0.0; value = p.0.1; may_be_empty = p.1.0; most = p.1.1 }) (both (read_kinds d) (read_bounds d))
    (both_worst rank (λ e. InNeeded InBase e (get (codes "key") d) ⊎ InOptional InBase e (get (codes "value") d)) (λ e. InLeast e (get (codes "min") d) ⊎ InMost e (get (codes "max") d)) (read_kinds d) (read_bounds d) (kinds_worst d) (bounds_worst d))

type_worst : (d : Data) → Worst (λ e. InType e d) (read_type d)
type_worst d =
    text_or_worst (λ s. result_map scalar (kind_named s)) InKind (read_object d) (InObject d) (λ s. map_worst rank (λ e. InKind e s) scalar (kind_named s) (kind_worst s)) (object_worst d) (as_str d)

column_worst : (d : Data) → Worst (λ e. InNeeded InType e (get (codes "type") d)) (read_column d)
column_worst d = needed_worst read_type InType type_worst (get (codes "type") d)

-- ---- tables

name_worst : (s : List ℕ) → Worst (λ e. InName e s) (checked_name s)
name_worst s = test_worst rank (is_name s) tt BadId

named_worst : (s : List ℕ) (d : Data) → Worst (λ e. InColumn e s d) (read_named_column s d)
named_worst s d =
    map_worst rank (λ e. InColumn e s d) (λ p. record { name = s; column = p.1 }) (both (checked_name s) (read_column d))
    (both_worst rank (λ e. InName e s) (λ e. InNeeded InType e (get (codes "type") d)) (checked_name s) (read_column d) (name_worst s) (column_worst d))

columns_worst : (d : Data) → Worst (λ e. InNeeded (λ f. SomeMember (InColumn f)) e (option_and_then as_object (get (codes "columns") d))) (columns_in d)
columns_worst d = needed_worst read_columns (λ f. SomeMember (InColumn f)) (all_worst rank InColumn read_named_column named_worst) (option_and_then as_object (get (codes "columns") d))

table_worst : (s : List ℕ) (d : Data) → Worst (λ e. InTable e s d) (read_table s d)
table_worst s d =
    map_worst rank (λ e. InTable e s d) (λ p. record { name = s; columns = p.1 }) (both (checked_name s) (columns_in d))
    (both_worst rank (λ e. InName e s) (λ e. InNeeded (λ f. SomeMember (InColumn f)) e (option_and_then as_object (get (codes "columns") d))) (checked_name s) (columns_in d) (name_worst s) (columns_worst d))

tables_worst : (d : Data) → Worst (λ e. InNeeded (λ f. SomeMember (InTable f)) e (option_and_then as_object (get (codes "tables") d))) (tables_in d)
tables_worst d = needed_worst read_tables (λ f. SomeMember (InTable f)) (all_worst rank InTable read_table table_worst) (option_and_then as_object (get (codes "tables") d))

-- ---- schemas

id_worst : (d : Data) → Worst (λ e. InNeeded InId e (option_and_then as_str (get (codes "name") d))) (database_name d)
id_worst d = needed_worst checked_id InId (λ s. test_worst rank (is_id s) s BadId) (option_and_then as_str (get (codes "name") d))

version_worst : (d : Data) → Worst (λ e. InNeeded (λ f s. ⊥) e (option_and_then as_str (get (codes "version") d))) (version d)
version_worst d = needed_worst (λ s. Ok tt) (λ f s. ⊥) (λ s e h. h) (option_and_then as_str (get (codes "version") d))

abbrev InHeading : Data → SchemaError → Type 0
InHeading d e = InNeeded InId e (option_and_then as_str (get (codes "name") d)) ⊎ InNeeded (λ f s. ⊥) e (option_and_then as_str (get (codes "version") d))

heading_worst : (d : Data) → Worst (InHeading d) (both (database_name d) (version d))
heading_worst d =
    both_worst rank (λ e. InNeeded InId e (option_and_then as_str (get (codes "name") d))) (λ e. InNeeded (λ f s. ⊥) e (option_and_then as_str (get (codes "version") d))) (database_name d) (version d) (id_worst d) (version_worst d)

pub schema_worst : (d : Data) → Worst (HasFault d) (read_description d)
schema_worst d =
    map_worst rank (HasFault d) (λ p. record { name = p.0.0; tables = p.1 }) (both (both (database_name d) (version d)) (tables_in d))
    (both_worst rank (InHeading d) (λ e. InNeeded (λ f. SomeMember (InTable f)) e (option_and_then as_object (get (codes "tables") d))) (both (database_name d) (version d)) (tables_in d) (heading_worst d) (tables_worst d))
