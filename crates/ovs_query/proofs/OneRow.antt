-- Conditions that admit one id alone: of a table the row of that id is left, if it matches.
use Rattle.std.proofs.Common.{◌≡◌, ℕ, suc, ◌<◌, List, [], ◌∷◌, Bool, true, false, cond, ◌&&◌, true≢false, Option, Some, None, length, get_or, refl, sym, ap, subst, map, ◌∙◌, arith}
use Rattle.std.specs.Prelude.{filter, ◌==◌, not, option_map, option_and_then}
use Rattle.std.specs.List.{list_all, cons_option, AllByRecursion}
use Rattle.std.specs.List.Sorted.{IsStrictlySortedBy}
use Rattle.std.specs.Map.{keys_of}
use Rattle.std.specs.Ordering.{is_eq, eq_by_cmp}
use Rattle.std.specs.declared.cmp.Ordering.TheVariants.{Less, Equal}
use Rattle.std.specs.Cmp.{Equal-is, tied_itself}
use Rattle.std.specs.FinMap.{find, get, entries, get-entries}
use Rattle.std.proofs.lemmas.Bool.{eqb-true}
use Rattle.std.proofs.lemmas.Bool.Decides.{nat_tests}
use Rattle.std.proofs.lemmas.List.Folds.{list_all_at}
use Rattle.ovs_data.specs.declared.atom.Atom.TheVariants.{Uuid}
use Rattle.ovs_data.specs.declared.datum.Datum.{Datum}
use Rattle.ovs_data.specs.declared.datum.Datum.TheVariants.{Set}
use Rattle.ovs_data.specs.declared.datum.pairs.Pair.{Pair}
use Rattle.ovs_types.specs.Conditions.{has_pair, includes, excludes}
use Rattle.ovs_types.specs.Datum.{has_element, elements_of, pairs_of}
use Rattle.ovs_types.specs.Equality.{datum_eq}
use Rattle.ovs_rows.specs.declared.row_key.RowKey.{RowKey}
use Rattle.ovs_rows.specs.declared.row.Row.{Row}
use Rattle.ovs_rows.specs.RowKey.{place_cmp, place_total, place_exact}
use Rattle.ovs_rows.specs.Row.{Rows}
use Rattle.ovs_rows.specs.Writing.{rows_in}
use Rattle.ovs_rows.proofs.Data.{same_datum}
use Rattle.ovs_data.proofs.Maps.{entries_ascend}
use Rattle.ovs_query.specs.declared.conditions.Condition.{Condition}
use Rattle.ovs_query.specs.declared.select.Select.{Select}
use Rattle.ovs_query.specs.Projected.{id_datum}
use Rattle.ovs_query.specs.RowWriting.{shown_json, row_matching, rows_json}
use Rattle.ovs_query.specs.Conditions.{holds, all_hold, AdmitOnly}

-- the one element of a value is the id that is equal to it
pub equal_ids : (m n : ℕ) → datum_eq (id_datum m) (Set (Uuid n ∷ [])) ≡ true → m ≡ n
equal_ids m n e =
    let same : id_datum m ≡ id_datum n = same_datum (id_datum m) (id_datum n) e in cc

-- where all conditions hold, each does
pub each_holds : (cs : List Condition) (i : ℕ) (c : Condition) (id : ℕ) (row : Row) → i < length cs → all_hold cs id row ≡ true → holds id row (get_or cs i c) ≡ true
each_holds cs i c id row lt all = by (holds id row (get_or cs i c)) refl
  where
    by : (b : Bool) → holds id row (get_or cs i c) ≡ b → b ≡ true
    by true e = refl
    by false e = absurd (true≢false (sym all ∙ list_all_at (holds id row) cs i c lt e))

module _ (cs : List Condition) (table id : ℕ) (alone : AdmitOnly id cs) where
  abbrev here : RowKey
  here = record { table = table; id = id }

  abbrev of_table : List (RowKey × Row) → List (RowKey × Row)
  of_table = filter (λ e. e.0.table == table)

  abbrev kept : List (RowKey × Row) → List (RowKey × Row)
  kept es = filter (λ e. all_hold cs e.0.id e.1) (of_table es)

  -- the row at the place, if it matches
  abbrev one_of : Option Row → List (RowKey × Row)
  one_of None = []
  one_of (Some row) = cond (all_hold cs id row) ((record { table = table; id = id }, row) ∷ []) []

  is_here : (x : RowKey × Row) → (x.0.table == table) ≡ true → all_hold cs x.0.id x.1 ≡ true → x.0 ≡ here
  is_here x at holds i = record { table = eqb-true x.0.table table at i; id = alone x.0.id x.1 holds i }

  left_out : (x : RowKey × Row) (es : List (RowKey × Row)) → ((x.0.table == table) ≡ true → all_hold cs x.0.id x.1 ≡ true → ⊥) → kept (x ∷ es) ≡ kept es
  left_out x es absent = by (x.0.table == table) refl (all_hold cs x.0.id x.1) refl
    where
      table_is : (b : Bool) → (x.0.table == table) ≡ b → kept (x ∷ es) ≡ filter (λ e. all_hold cs e.0.id e.1) (cond b (x ∷ of_table es) (of_table es))
      table_is b at = ap (λ b. filter (λ (e : RowKey × Row). all_hold cs e.0.id e.1) (cond b (x ∷ of_table es) (of_table es))) at

      by : (b : Bool) → (x.0.table == table) ≡ b → (h : Bool) → all_hold cs x.0.id x.1 ≡ h → kept (x ∷ es) ≡ kept es
      by true at true holds = absurd (absent at holds)
      by true at false holds = table_is true at ∙ ap (λ h. cond h (x ∷ kept es) (kept es)) holds
      by false at h holds = table_is false at

  none_after : (p : RowKey) → p ≡ here → (es : List (RowKey × Row)) → AllByRecursion (λ q. place_cmp p q ≡ Less) (keys_of es) → kept es ≡ []
  none_after p is [] h = refl
  none_after p is (x ∷ es) h = left_out x es clash ∙ none_after p is es h.1
    where
      clash : (x.0.table == table) ≡ true → all_hold cs x.0.id x.1 ≡ true → ⊥
      clash at holds =
          let same : x.0 ≡ p = is_here x at holds ∙ sym is in
          let less : place_cmp p p ≡ Less = subst (λ q. place_cmp p q ≡ Less) same h.0 in
          let tied : place_cmp p p ≡ Equal = tied_itself place_total p in
          absurd (let both = sym less ∙ tied in cc)

  kept_one : (es : List (RowKey × Row)) → IsStrictlySortedBy place_cmp (keys_of es) → kept es ≡ one_of (find place_cmp here es)
  unfolding IsStrictlySortedBy
  kept_one [] sorted = refl
  kept_one (x ∷ es) sorted = by (eq_by_cmp place_cmp here x.0) refl (kept_one es sorted.1)
    where
      by : (b : Bool) → eq_by_cmp place_cmp here x.0 ≡ b → kept es ≡ one_of (find place_cmp here es) → kept (x ∷ es) ≡ one_of (cond b (Some x.1) (find place_cmp here es))
      by true at rest =
          let same : here ≡ x.0 = place_exact here x.0 ((Equal-is (place_cmp here x.0)).0 at) in
          subst (λ p. kept ((p, x.1) ∷ es) ≡ cond (all_hold cs id x.1) ((here, x.1) ∷ []) []) same
          (first (kept es) (none_after x.0 (sym same) es sorted.0))
        where
          itself : (n : ℕ) → (n == n) ≡ true
          itself n = grind (arith, nat_tests)

          first : (ks : List (RowKey × Row)) → kept es ≡ [] → kept ((here, x.1) ∷ es) ≡ cond (all_hold cs id x.1) ((here, x.1) ∷ []) []
          first ks none =
              ap (λ b. filter (λ (e : RowKey × Row). all_hold cs e.0.id e.1) (cond b ((here, x.1) ∷ of_table es) (of_table es))) (itself table)
              ∙ ap (λ ks. cond (all_hold cs id x.1) ((here, x.1) ∷ ks) ks) none
      by false at rest = left_out x es clash ∙ rest
        where
          clash : (x.0.table == table) ≡ true → all_hold cs x.0.id x.1 ≡ true → ⊥
          clash at_table holds = true≢false (sym (ap is_eq (tied_itself place_total here)) ∙ subst (λ q. eq_by_cmp place_cmp here q ≡ false) (is_here x at_table holds) at)

  -- of the table's rows the one of the id is left, if it matches
  pub one_left : (rows : Rows) → filter (λ e. all_hold cs e.0.id e.1) (rows_in table rows) ≡ one_of (get rows here)
  one_left rows = kept_one (entries rows) (entries_ascend place_total place_exact rows) ∙ ap one_of (sym (get-entries rows here))

-- what is written of them
pub row_left : (s : Select) (id : ℕ) (rows : Rows) (o : Option Row) → AdmitOnly id s.conditions → o ≡ row_matching s id rows → rows_json s (rows_in s.table rows) ≡ cons_option (option_map (shown_json s.shown id) o) []
row_left s id rows o alone is =
    ap (map (λ (e : RowKey × Row). shown_json s.shown e.0.id e.1)) (one_left s.conditions s.table id alone rows)
    ∙ by (get rows (record { table = s.table; id = id }))
    ∙ ap (λ o. cons_option (option_map (shown_json s.shown id) o) []) (sym is)
  where
    one : (row : Row) (b : Bool) → map (λ (e : RowKey × Row). shown_json s.shown e.0.id e.1) (cond b ((record { table = s.table; id = id }, row) ∷ []) []) ≡ cons_option (option_map (shown_json s.shown id) (cond b (Some row) None)) []
    one row true = refl
    one row false = refl

    by : (o : Option Row) → map (λ (e : RowKey × Row). shown_json s.shown e.0.id e.1) (one_of s.conditions s.table id alone o) ≡ cons_option (option_map (shown_json s.shown id) (option_and_then (λ row. cond (all_hold s.conditions id row) (Some row) None) o)) []
    by None = refl
    by (Some row) = one row (all_hold s.conditions id row)

-- ---- an id, held against pairs, of which it has none

no_pairs : (id : ℕ) (ps : List Pair) → (length ps == 0) ≡ list_all (has_pair (id_datum id)) ps
no_pairs id [] = refl
no_pairs id (p ∷ ps) = not_zero (length ps)
  where
    not_zero : (n : ℕ) → (suc n == 0) ≡ false
    not_zero n = grind (arith, nat_tests)

no_pair : (id : ℕ) (ps : List Pair) → list_all (λ p. not (has_pair (id_datum id) p)) ps ≡ true
no_pair id [] = refl
no_pair id (p ∷ ps) = no_pair id ps

-- so its elements decide
elements_decide : (b : Bool) → b ≡ (b && true)
elements_decide true = refl
elements_decide false = refl

pub id_included : (id : ℕ) (value : Datum) → list_all (λ x. has_element x (id_datum id)) (elements_of value) ≡ true → (length (pairs_of value) == 0) ≡ includes (id_datum id) value
id_included id value all = no_pairs id (pairs_of value) ∙ sym (ap (λ b. b && list_all (has_pair (id_datum id)) (pairs_of value)) all)

pub id_excluded : (id : ℕ) (value : Datum) → list_all (λ x. not (has_element x (id_datum id))) (elements_of value) ≡ excludes (id_datum id) value
id_excluded id value =
    elements_decide (list_all (λ x. not (has_element x (id_datum id))) (elements_of value))
    ∙ sym (ap (λ b. list_all (λ x. not (has_element x (id_datum id))) (elements_of value) && b) (no_pair id (pairs_of value)))
