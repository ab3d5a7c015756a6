-- The text of an object is that of its members, where their names ascend.
use Rattle.std.proofs.Common.{◌≡◌, ℕ, ◌+◌, ◌<◌, ◌^◌, List, [], ◌∷◌, ◌++◌, map, Bool, true, false, refl, sym, ap, ◌∙◌, append_assoc}
use Rattle.std.specs.Prelude.{fold}
use Rattle.std.specs.List.{AllByRecursion, enumerate_from}
use Rattle.std.specs.List.Sorted.{IsStrictlySortedBy}
use Rattle.std.specs.FinMap.{entries, entries_sorted, is_sorted}
use Rattle.serde_json.specs.Data.{Data, no_members, string}
use Rattle.serde_json.specs.Written.{comma_if, compact_text, members_text}
use Rattle.ovs_data.proofs.Maps.{of_T}
use Rattle.ovs_types.specs.declared.schema.NamedColumn.{NamedColumn}
use Rattle.ovs_types.specs.declared.schema.Table.{Table}
use Rattle.ovs_types.specs.Id.{id_text}
use Rattle.ovs_types.specs.Names.{IsAscendingBy}
use Rattle.ovs_rows.specs.declared.row_key.RowKey.{RowKey}
use Rattle.ovs_rows.specs.declared.row.Row.{Row}
use Rattle.ovs_rows.specs.RowKey.{place_cmp}
use Rattle.ovs_rows.specs.Row.{Rows}
use Rattle.ovs_rows.specs.ObjectText.{member_text, listed_text}
use Rattle.ovs_rows.specs.Writing.{with_member, object_of, row_member, rows_in, table_json, table_member, tables_json}
use Rattle.ovs_rows.proofs.IdOrder.{id_text_cmp, less_is}
use Rattle.ovs_rows.proofs.ObjectOrder.{Precedes, IsFirst, first_stays}
use Rattle.ovs_rows.proofs.TableActions.{IsLeast, Ascend, ascends}

-- ---- members whose names ascend

abbrev pub AreInOrder : List (List ℕ × Data) → Type 0
AreInOrder [] = Unit {0}
AreInOrder (m ∷ ms) = IsFirst m.0 ms × AreInOrder ms

in_order_text : (later : Bool) (ms : List (List ℕ × Data)) → AreInOrder ms → members_text later (fold with_member no_members ms) ≡ listed_text later ms
in_order_text later [] in_order = refl
in_order_text later (m ∷ ms) in_order =
    ap (members_text later) (first_stays m.0 m.1 ms no_members in_order.0)
    ∙ ap (λ l. comma_if later ++ (compact_text (string m.0) ++ 58 ∷ (compact_text m.1 ++ l))) (in_order_text true ms in_order.1)
    ∙ sym (
    append_assoc (comma_if later ++ (compact_text (string m.0) ++ 58 ∷ [])) (compact_text m.1) (listed_text true ms)
    ∙ append_assoc (comma_if later) (compact_text (string m.0) ++ 58 ∷ []) (compact_text m.1 ++ listed_text true ms)
    ∙ ap (λ l. comma_if later ++ l) (append_assoc (compact_text (string m.0)) (58 ∷ []) (compact_text m.1 ++ listed_text true ms)))

object_text : (ms : List (List ℕ × Data)) → AreInOrder ms → 123 ∷ listed_text false ms ≡ compact_text (object_of ms)
object_text ms in_order = ap (λ l. 123 ∷ l) (sym (in_order_text false ms in_order))

-- ---- a loop over what an object has as members

module _ {X : Type 0} (f : X → List ℕ × Data) (whole text : List ℕ) (later : Bool) (left : List X) (so_far : text ++ listed_text later (map f left) ≡ whole) where
  pub text_next : (x : X) (rest : List X) (new : List ℕ) → left ≡ x ∷ rest → new ≡ text ++ member_text later (f x) → new ++ listed_text true (map f rest) ≡ whole
  text_next x rest new is step =
      ap (λ l. l ++ listed_text true (map f rest)) step ∙ append_assoc text (member_text later (f x)) (listed_text true (map f rest))
      ∙ sym (ap (λ xs. text ++ listed_text later (map f xs)) is) ∙ so_far

  pub text_end : (new : List ℕ) → left ≡ [] → new ≡ text ++ 125 ∷ [] → new ≡ whole
  text_end new is step = step ∙ sym (ap (λ xs. text ++ listed_text later (map f xs)) is) ∙ so_far

-- ---- the rows of a table

abbrev pub HaveIds : List (RowKey × Row) → Type 0
HaveIds = AllByRecursion (λ e. e.0.id < 2 ^ 128)

pub ids_next : (p : RowKey) (r : Row) (left rest : List (RowKey × Row)) (Whole : Type 0) → p.id < 2 ^ 128 → left ≡ (p, r) ∷ rest → (HaveIds left → Whole) → HaveIds rest → Whole
ids_next p r left rest Whole fits is all others = all (rw is (fits, others))

pub ids_end : (left : List (RowKey × Row)) (Whole : Type 0) → left ≡ [] → (HaveIds left → Whole) → Whole
ids_end left Whole is all = all (rw is tt)

module _ (columns : List NamedColumn) where
  id_first : (id : ℕ) (es : List (RowKey × Row)) → id < 2 ^ 128 → IsLeast id es → HaveIds es → IsFirst (id_text id) (map (row_member columns) es)
  id_first id [] fits least others = tt
  id_first id (e ∷ es) fits least others = (id_text_cmp id e.0.id fits others.0 ∙ less_is id e.0.id least.0, id_first id es fits least.1 others.1)

  rows_in_order : (es : List (RowKey × Row)) → Ascend es → HaveIds es → AreInOrder (map (row_member columns) es)
  rows_in_order [] ascend all = tt
  rows_in_order (e ∷ es) ascend all = (id_first e.0.id es all.0 ascend.0 all.1, rows_in_order es ascend.1 all.1)

pub table_text : (number : ℕ) (t : Table) (rows : Rows) → HaveIds (rows_in number rows) → 123 ∷ listed_text false (map (row_member t.columns) (rows_in number rows)) ≡ compact_text (table_json rows (number, t))
table_text number t rows ids =
    object_text (map (row_member t.columns) (rows_in number rows))
    (rows_in_order t.columns (rows_in number rows) (ascends number (entries rows) (of_T (is_sorted place_cmp (entries rows)) (entries_sorted rows))) ids)

-- ---- the tables

module _ (rows : Rows) where
  name_first : (name : List ℕ) (number : ℕ) (ts : List Table) → AllByRecursion (λ s. Precedes name s) (map (λ t. t.name) ts) → IsFirst name (map (table_member rows) (enumerate_from number ts))
  name_first name number [] h = tt
  name_first name number (t ∷ ts) h = (h.0, name_first name (number + 1) ts h.1)

  tables_in_order : (number : ℕ) (ts : List Table) → IsAscendingBy (λ t. t.name) ts → AreInOrder (map (table_member rows) (enumerate_from number ts))
  unfolding IsStrictlySortedBy
  tables_in_order number [] ascending = tt
  tables_in_order number (t ∷ ts) ascending = (name_first t.name (number + 1) ts ascending.0, tables_in_order (number + 1) ts ascending.1)

  pub tables_text : (ts : List Table) → IsAscendingBy (λ t. t.name) ts → 123 ∷ listed_text false (map (table_member rows) (enumerate_from 0 ts)) ≡ compact_text (tables_json ts rows)
  tables_text ts ascending = object_text (map (table_member rows) (enumerate_from 0 ts)) (tables_in_order 0 ts ascending)
