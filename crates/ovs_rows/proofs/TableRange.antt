-- The rows of a table are those from its first place up to the first place of the next table.
use Rattle.std.proofs.Common.{◌≡◌, ℕ, suc, zero, ◌<◌, ◌≤◌, List, [], ◌∷◌, Bool, true, false, not, ◌&&◌, Option, Some, None, refl, sym, ap, ◌∙◌, length, arith}
use Rattle.std.specs.Prelude.{filter, nat_lt, ◌==◌}
use Rattle.std.specs.declared.cmp.Ordering.{Ordering}
use Rattle.std.specs.declared.cmp.Ordering.TheVariants.{Less, Equal, Greater}
use Rattle.std.specs.declared.ops.Bound.TheVariants.{Included, Excluded}
use Rattle.std.specs.BTreeMap.Range.{range_contains}
use Rattle.std.specs.Ordering.{nat_cmp, ordering_then, MatchOrdering, is_le}
use Rattle.std.specs.Cmp.{ranked}
use Rattle.std.specs.FinMap.{entries, get}
use Rattle.std.proofs.lemmas.Bool.Decides.{nat_tests}
use Rattle.ovs_types.specs.declared.schema.Table.{Table}
use Rattle.ovs_rows.specs.declared.row_key.RowKey.{RowKey}
use Rattle.ovs_rows.specs.declared.row.Row.{Row}
use Rattle.ovs_rows.specs.RowKey.{place_cmp}
use Rattle.ovs_rows.specs.Row.{Rows, AreRowsOf}
use Rattle.ovs_rows.specs.Writing.{rows_in}
use Rattle.ovs_rows.proofs.Scanning.{zero_first, none_begins}

-- the first place of a table
abbrev pub first : ℕ → RowKey
first table = record { table = table; id = 0 }

-- a place stands from the first of one table on, and before that of another
abbrev pub is_between : ℕ → ℕ → RowKey → Bool
is_between table end = range_contains place_cmp (Included (first table)) (Excluded (first end))

from_first : (table : ℕ) (q : RowKey) → is_le (place_cmp (first table) q) ≡ not (nat_lt q.table table)
from_first table q = by (nat_cmp table q.table) (ranked table q.table (nat_cmp table q.table) refl)
  where
    by : (o : Ordering) → MatchOrdering o (table < q.table) (table ≡ q.table) (q.table < table) → is_le (ordering_then o (nat_cmp 0 q.id)) ≡ not (nat_lt q.table table)
    by Less h = let lt : table < q.table = h in grind (arith, nat_tests)
    by Equal h = let same : table ≡ q.table = h in zero_first q.id ∙ grind (arith, nat_tests)
    by Greater h = let gt : q.table < table = h in grind (arith, nat_tests)

between_is : (table end : ℕ) (q : RowKey) → is_between table end q ≡ (not (nat_lt q.table table) && not (not (nat_lt q.table end)))
between_is table end q i = from_first table q i && not (from_first end q i)

of_table : (table : ℕ) (q : RowKey) → is_between table (suc table) q ≡ (q.table == table)
of_table table q = between_is table (suc table) q ∙ grind (arith, nat_tests)

of_none : (table : ℕ) (q : RowKey) → is_between table table q ≡ false
of_none table q = between_is table table q ∙ grind (arith, nat_tests)

nothing_left : {A : Type 0} (es : List A) → filter (λ e. false) es ≡ []
nothing_left [] = refl
nothing_left (e ∷ es) = nothing_left es

pub one_table : (table : ℕ) (rows : Rows) → filter (λ e. is_between table (suc table) e.0) (entries rows) ≡ rows_in table rows
one_table table rows i = filter (λ e. of_table table e.0 i) (entries rows)

pub no_table : (tables : List Table) (table : ℕ) (rows : Rows) → AreRowsOf tables rows → length tables ≤ table
    → filter (λ e. is_between table table e.0) (entries rows) ≡ rows_in table rows
no_table tables table rows are beyond =
    (λ i. filter (λ e. of_none table e.0 i) (entries rows)) ∙ nothing_left (entries rows)
    ∙ sym (none_begins table None rows (λ other after. absent (record { table = table; id = other }) refl (get rows (record { table = table; id = other })) refl))
  where
    absent : (p : RowKey) → p.table ≡ table → (o : Option Row) → get rows p ≡ o → o ≡ None
    absent p at None e = refl
    absent p at (Some row) e = let within = (are p row e).0 in absurd (omega arith)
