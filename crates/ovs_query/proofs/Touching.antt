-- Views at a place, and touched rows by place.
use Rattle.std.proofs.Common.{◌≡◌, List, [], ◌∷◌, Bool, true, false, cond, Option, Some, None, refl, sym, ap, ◌∙◌, map}
use Rattle.std.specs.Prelude.{option_map}
use Rattle.std.specs.List.{AllByRecursion, cons_option}
use Rattle.std.specs.List.Sorted.{IsStrictlySortedBy}
use Rattle.std.specs.declared.cmp.Ordering.TheVariants.{Less}
use Rattle.std.specs.Cmp.{Equal-is}
use Rattle.std.specs.Ordering.{eq_by_cmp, is_eq}
use Rattle.std.specs.Option.{option_and_then}
use Rattle.std.specs.FinMap.{get, find, empty, get-from_entries}
use Rattle.ovs_rows.specs.declared.row_key.RowKey.{RowKey}
use Rattle.ovs_rows.specs.declared.row.Row.{Row}
use Rattle.ovs_rows.specs.RowKey.{place_cmp, place_total, place_exact}
use Rattle.ovs_rows.specs.Row.{Rows}
use Rattle.ovs_rows.specs.After.{TouchedRow}
use Rattle.ovs_rows.specs.Applied.{AscendByPlace}
use Rattle.ovs_rows.proofs.Combining.{get-combined}
use Rattle.ovs_query.specs.declared.monitor.Watched.{Watched}
use Rattle.ovs_query.specs.View.{view, shown_at}
use Rattle.ovs_query.specs.Updates.{touched_at, listed, by_place}

-- places that compare equal are the same
pub same_place : (p q : RowKey) → eq_by_cmp place_cmp p q ≡ true → p ≡ q
same_place p q at = place_exact p q ((Equal-is (place_cmp p q)).0 at)

-- ---- views at a place

pub get-view : (watches : List (Option Watched)) (rows : Rows) (p : RowKey) → get (view watches rows) p ≡ shown_at watches p (get rows p)
unfolding view
get-view watches rows p = get-combined place_total place_exact (λ p row nothing. shown_at watches p row) (λ p. refl) rows (empty {X = Row}) p

-- ---- touched rows by place

abbrev places : List TouchedRow → List RowKey
places = map (λ t. t.place)

-- a place before all of the rows isn't among them
not_touched : (k p : RowKey) (ts : List TouchedRow) → k ≡ p → AllByRecursion (λ y. place_cmp k y ≡ Less) (places ts) → touched_at ts p ≡ None
not_touched k p [] e h = refl
not_touched k p (t ∷ ts) e h =
    ap (λ b. cond b (Some t) (touched_at ts p)) (ap (λ q. eq_by_cmp place_cmp q t.place) (sym e) ∙ ap is_eq h.0) ∙ not_touched k p ts e h.1

-- a touched row is found at its place
pub touched_place : (ts : List TouchedRow) (p : RowKey) (t : TouchedRow) → touched_at ts p ≡ Some t → t.place ≡ p
touched_place [] p t e = absurd cc
touched_place (s ∷ ts) p t e = by (touched_place ts p t) (eq_by_cmp place_cmp p s.place) refl e
  where
    is : (s t : TouchedRow) → Some s ≡ Some t → s ≡ t
    is s t e = cc

    by : (touched_at ts p ≡ Some t → t.place ≡ p) → (b : Bool) → eq_by_cmp place_cmp p s.place ≡ b → cond b (Some s) (touched_at ts p) ≡ Some t → t.place ≡ p
    by others true at e = ap (λ r. r.place) (sym (is s t e)) ∙ sym (same_place p s.place at)
    by others false at e = others e

module _ {U : Type 0} (f : TouchedRow → Option U) where
  found : (ts : List TouchedRow) (p : RowKey) → AscendByPlace ts → find place_cmp p (listed f ts) ≡ option_and_then f (touched_at ts p)
  unfolding IsStrictlySortedBy
  found [] p sorted = refl
  found (t ∷ ts) p sorted = by (eq_by_cmp place_cmp p t.place) refl (f t) refl (found ts p sorted.1)
    where
      by : (b : Bool) → eq_by_cmp place_cmp p t.place ≡ b → (u : Option U) → f t ≡ u → find place_cmp p (listed f ts) ≡ option_and_then f (touched_at ts p)
          → find place_cmp p (cons_option (option_map (λ a. (t.place, a)) u) (listed f ts)) ≡ option_and_then f (cond b (Some t) (touched_at ts p))
      by true at None none others =
          others ∙ ap (option_and_then f) (not_touched t.place p ts (sym (same_place p t.place at)) sorted.0) ∙ sym none
      by true at (Some a) some others = ap (λ b. cond b (Some a) (find place_cmp p (listed f ts))) at ∙ sym some
      by false at None none others = others
      by false at (Some a) some others = ap (λ b. cond b (Some a) (find place_cmp p (listed f ts))) at ∙ others

  pub get-by_place : (ts : List TouchedRow) (p : RowKey) → AscendByPlace ts → get (by_place f ts) p ≡ option_and_then f (touched_at ts p)
  get-by_place ts p sorted = get-from_entries place_total (listed f ts) p ∙ found ts p sorted
