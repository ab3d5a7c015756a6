-- A source with another epoch.
use Rattle.std.proofs.Common.{◌≡◌, ◌≢◌, ℕ, inl, inr, List, [], ◌∷◌, ◌++◌, Option, Some, None, refl, sym, ◌∙◌, ap, subst, arith, ⊎_elim}
use Rattle.std.specs.Prelude.{Result, Ok, Err, option_map}
use Rattle.std.specs.FinMap.{get, get-empty, same_map}
use Rattle.ovs_data.specs.declared.datum.Datum.{Datum}
use Rattle.ovs_types.specs.declared.schema.NamedColumn.{NamedColumn}
use Rattle.ovs_types.specs.declared.schema.Table.{Table}
use Rattle.ovs_rows.specs.Change.{Actions}
use Rattle.ovs_rows.specs.declared.change.Action.TheVariants.{Insert}
use Rattle.ovs_rows.specs.declared.row.Row.{Row}
use Rattle.ovs_rows.specs.RowKey.{place_cmp, place_total, place_exact}
use Rattle.ovs_rows.specs.Row.{Rows, columns_at, no_rows}
use Rattle.ovs_rows.specs.After.{after}
use Rattle.ovs_rows.specs.DatabaseDifference.{database_difference, action_between, HaveSameData}
use Rattle.ovs_rows.proofs.Laws.{get-database_difference}
use Rattle.ovs_links.specs.Link.{IsStart}
use Rattle.ovs_links.specs.Sets.{Holds, Among}
use Rattle.ovs_links.specs.Epochs.{EpochHistory, IsEpochHistory, IsNextEpoch, epochs_of, links_within, links_in, begun_epoch}
use Rattle.ovs_links.specs.History.{Commit}
use Rattle.ovs_links.specs.Restarting.{after_restart}
use Rattle.ovs_links.specs.Store.{Stored, tables_of, rows_of}
use Rattle.ovs_links.specs.Answers.{AreOfOneSource}
use Rattle.ovs_links.specs.declared.link.Link.{Link}
use Rattle.ovs_links.specs.declared.answer.TakeError.{TakeError}
use Rattle.ovs_links.proofs.CommitLemmas.{begun_links, latest_begun, first_link}
use Rattle.ovs_links.proofs.EpochLemmas.{history_begun}
use Rattle.ovs_links.proofs.TrimLemmas.{same_data, renewed_commit}
use Rattle.ovs_source.specs.Commits.{IsSourceOf, IsSource, IsTaken}
use Rattle.ovs_source.specs.Trimming.{IsRenewed, BeginsEpoch, next_start, renewing}
use Rattle.ovs_source.proofs.Histories.{start_is, rows_are, rows_of_its_tables, start_now_is, rows_now_is, below_latest, new_id, past_starts, held_with}
use Rattle.ovs_source.proofs.LinksInOrder.{begun_in_order}

-- all rows are inserted by the same change, whatever their versions
same_action : (columns : List NamedColumn) (before old new : Option Row) → before ≡ None → option_map (λ (r : Row). r.columns) new ≡ option_map (λ (r : Row). r.columns) old
    → action_between columns before new ≡ action_between columns before old
same_action columns (Some b) old new none same = absurd cc
same_action columns None None None none same = refl
same_action columns None None (Some new) none same = absurd cc
same_action columns None (Some old) None none same = absurd cc
same_action columns None (Some old) (Some new) none same =
    let columns_are : new.columns ≡ old.columns = cc in ap (λ (cs : List Datum). Some (Insert cs)) columns_are

inserts_the_same : (ts : List Table) (old new : Rows) → HaveSameData old new → database_difference ts no_rows new ≡ database_difference ts no_rows old
inserts_the_same ts old new same = same_map place_total place_exact (database_difference ts no_rows new) (database_difference ts no_rows old) (λ p.
    get-database_difference ts no_rows new p
    ∙ same_action (columns_at ts p.table) (get no_rows p) (get old p) (get new p) (get-empty place_cmp p) (same p)
    ∙ sym (get-database_difference ts no_rows old p))

module _ (s : Stored) (h : EpochHistory) (of : IsSourceOf s h) (id : ℕ) (free : ¬ (IsTaken s id)) (start : IsStart (next_start s)) where
  -- the commit that the epoch begins with
  abbrev pub renewed : Commit
  renewed = record { id = id; rows = after (tables_of s) no_rows (database_difference (tables_of s) no_rows (rows_of s)) id }

  abbrev pub begun : EpochHistory
  begun = begun_epoch h (next_start s) renewed

  is_next : IsNextEpoch (tables_of s) h (next_start s) renewed
  is_next = record {
    above = (let now = start_now_is (record { start = 0; commits = h.first }) h.later in let is = start_is s h of in omega (arith, now, is));
    below = start;
    past = past_starts s h of id free;
    new = new_id s h of id free;
    commit = renewed_commit (tables_of s) (rows_of s) id (rows_of_its_tables s h of);
    same = subst (λ (rows : Rows). HaveSameData rows renewed.rows) (rows_are s h of ∙ sym (rows_now_is (record { start = 0; commits = h.first }) h.later)) (same_data (tables_of s) (rows_of s) id);
  }

  begun_is : IsEpochHistory (tables_of s) begun
  begun_is = history_begun (tables_of s) h (next_start s) renewed of.history is_next

  is_first_link : first_link (tables_of s) (next_start s) renewed ≡ renewing s id
  is_first_link = ap (λ (c : Actions). record { prev = next_start s; id = id; change = c }) (inserts_the_same (tables_of s) (rows_of s) renewed.rows (same_data (tables_of s) (rows_of s) id))

  pub none_from : (x : Link) → Holds s.links x → x.prev ≢ next_start s
  none_from x held e = let most = below_latest s h of x held (subst IsStart (sym e) start) in omega (arith, most, e)

  pub source_begun : IsSourceOf (after_restart s (renewing s id) (Ok tt)) begun
  source_begun =
      let links = begun_links (tables_of s) h (next_start s) renewed in
      let l = renewing s id in
      let S : Link → Type 0 = Among (links_in (tables_of s) (epochs_of h)) in
      let T : Link → Type 0 = Among (links_in (tables_of s) (epochs_of begun)) in
      record {
        history = begun_is;
        held = held_with s.links l S T none_from of.held links.0 (subst T is_first_link links.1)
            (λ x t. ⊎_elim (λ (a : S x). inl a) (λ (e : x ≡ first_link (tables_of s) (next_start s) renewed). inr (e ∙ is_first_link)) (links.2 x t));
        folded = ap (λ (x : Link). x ∷ []) (sym is_first_link) ∙ ap (links_within (tables_of s)) (sym (latest_begun h (next_start s) renewed));
      }

  pub is_renewed : IsRenewed (tables_of s) h (renewing s id) begun
  is_renewed = record {
    commit = renewed;
    id = refl;
    is = refl;
    links = begun_in_order (tables_of s) h (next_start s) renewed ∙ ap (λ (x : Link). links_in (tables_of s) (epochs_of h) ++ x ∷ []) is_first_link;
  }

  -- its links and the new one are of one history, so they don't contradict each other
  pub one_source_begun : AreOfOneSource (tables_of s) (Holds s.links) (Among (renewing s id ∷ []))
  one_source_begun =
      let links = begun_links (tables_of s) h (next_start s) renewed in
      let T : Link → Type 0 = Among (links_in (tables_of s) (epochs_of begun)) in (
        begun,
        begun_is,
        λ x held. links.0 x ((of.held x).0 held),
        λ x a. ⊎_elim (λ (e : x ≡ renewing s id). subst T (sym (e ∙ sym is_first_link)) links.1) (λ (none : ⊥). absurd none) a,
      )

-- ---- what restarting the store leaves

module _ (s t : Stored) (l : Link) (is : l ≡ renewing s l.id) (free : ¬ (IsTaken s l.id)) (start : IsStart (next_start s)) where
  pub source_restarted : (r : Result (Unit {0}) TakeError) → IsSource s → t ≡ after_restart s l r → IsSource t
  source_restarted (Ok u) source left =
      subst IsSource (sym (left ∙ ap (λ (x : Link). after_restart s x (Ok tt)) is))
      (record { history = begun s source.history source.is l.id free start; is = source_begun s source.history source.is l.id free start })
  source_restarted (Err e) source left = subst IsSource (sym left) source

  pub begins_epoch : t ≡ after_restart s l (Ok tt) → BeginsEpoch s l t
  begins_epoch left h of = (
    begun s h of l.id free start,
    subst (λ (x : Link). IsRenewed (tables_of s) h x (begun s h of l.id free start)) (sym is) (is_renewed s h of l.id free start),
    subst (λ (v : Stored). IsSourceOf v (begun s h of l.id free start)) (sym (left ∙ ap (λ (x : Link). after_restart s x (Ok tt)) is)) (source_begun s h of l.id free start),
  )

  pub never_forks : IsSource s → AreOfOneSource (tables_of s) (Holds s.links) (Among (l ∷ []))
  never_forks source = subst (λ (x : Link). AreOfOneSource (tables_of s) (Holds s.links) (Among (x ∷ []))) (sym is) (one_source_begun s source.history source.is l.id free start)
