-- What a node tells a relay's monitor.
use Rattle.std.proofs.Common.{◌≡◌, ℕ, zero, suc, ◌+◌, ◌<◌, ◌≤◌, ⊎_elim, List, [], ◌∷◌, ◌++◌, true, false, cond, length, take, length-take, Some, None, Ok, refl, sym, ap, subst, ◌∙◌, arith}
use Rattle.std.specs.Prelude.{codes, nat_le, slice_get, flat_map, option_and_then, option_map}
use Rattle.std.specs.List.{AllByRecursion, cons_option, enumerate_from}
use Rattle.std.proofs.lemmas.Bool.{cases_lt}
use Rattle.std.proofs.lemmas.Bool.Decides.{nat_tests}
use Rattle.serde_json.specs.Data.{Data, string}
use Rattle.ovs_types.specs.declared.schema.Table.{Table}
use Rattle.ovs_types.specs.Id.{id_text}
use Rattle.ovs_rows.specs.After.{after}
use Rattle.ovs_rows.specs.DatabaseDifference.{database_difference}
use Rattle.ovs_rows.specs.Row.{Rows, no_rows, AreRowsOf}
use Rattle.ovs_rows.proofs.Laws.{difference_after}
use Rattle.ovs_links.specs.Epochs.{Epoch, links_within}
use Rattle.ovs_links.specs.History.{Commit, CommitsFrom, IsHistory, links_of}
use Rattle.ovs_links.specs.Steps.{step_of, steps_of}
use Rattle.ovs_links.specs.declared.link.Link.{Link}
use Rattle.ovs_links.specs.declared.step.Step.{Step}
use Rattle.ovs_query.specs.Updates.{updates}
use Rattle.ovs_query.specs.UpdateWriting.{update2_json}
use Rattle.ovs_query.proofs.Beginnings.{applied_step}
use Rattle.ovs_reader.specs.Telling.{IsReadable, IsToldReadably, AreToldReadably, notice_in, notice_of, notices, told}
use Rattle.ovs_reader.specs.declared.subscription.Subscription.{Subscription}
use Rattle.ovs_upstream.specs.Talk.{Update, talk_of, update_said, update_parts, object_in}
use Rattle.ovs_wire.specs.declared.message.Message.{Message}
use Rattle.ovs_wire.specs.declared.message.Message.TheVariants.{Notice}
use Rattle.ovs_world.specs.Awaiting.{IsRelayMonitor, TellsLink, TellLinks}

-- ---- links that are the differences of databases of the tables

abbrev AreDifferences : List Table → Rows → List Link → Type 0
AreDifferences tables rows [] = Unit {0}
AreDifferences tables rows (l ∷ ls) =
    AreRowsOf tables rows × AreRowsOf tables (after tables rows l.change l.id)
    × (l.change ≡ database_difference tables rows (after tables rows l.change l.id))
    × AreDifferences tables (after tables rows l.change l.id) ls

of_commits : (tables : List Table) (n start : ℕ) (rows : Rows) (h : List Commit) → CommitsFrom tables rows h → AreDifferences tables rows (take n (links_of tables start rows h))
of_commits tables zero start rows h commits = tt
of_commits tables (suc n) start rows [] commits = tt
of_commits tables (suc n) start rows (k ∷ ks) commits =
    let commit = commits.0 in
    let change = database_difference tables rows k.rows in
    let is : after tables rows change k.id ≡ k.rows = difference_after tables rows k.rows k.id commit.before commit.after commit in (
      commit.before,
      subst (AreRowsOf tables) (sym is) commit.after,
      ap (database_difference tables rows) (sym is),
      subst (λ (r : Rows). AreDifferences tables r (take n (links_of tables k.id k.rows ks))) (sym is) (of_commits tables n k.id k.rows ks commits.1),
    )

pub length_links : (tables : List Table) (start : ℕ) (rows : Rows) (h : List Commit) → length (links_of tables start rows h) ≡ length h
length_links tables start rows [] = refl
length_links tables start rows (k ∷ ks) = let rest = length_links tables k.id k.rows ks in omega (arith, rest)

-- ---- one step

module _ (tables : List Table) (ls : List Link) (m : Subscription) (relay : IsRelayMonitor tables m) where
  abbrev updates_in : Step → Data
  updates_in s = update2_json m.monitor.watches (updates m.monitor.watches s.applied)

  abbrev notice : Step → Message
  notice s = Notice (codes "update3") (m.id ∷ string (id_text s.id) ∷ updates_in s ∷ [])

  told_one : (s : Step) → notice_of s m ≡ Some (notice s)
  told_one s = ap (λ n. notice_in n m s) relay.notation

  says_update : (s : Step) → IsReadable m s → talk_of (notice s) ≡ Update s.id (updates_in s)
  says_update s readable =
      ap (λ i. update_said (update_parts (i, string (id_text s.id), updates_in s))) relay.named
      ∙ ap (λ o. update_said (option_and_then (λ id. option_map (λ updates. (id, updates)) (object_in (updates_in s))) o)) readable.id_back

  one_link : (k : ℕ) (rows : Rows) (l : Link) → slice_get ls k ≡ Some l → AreRowsOf tables rows → AreRowsOf tables (after tables rows l.change l.id)
      → l.change ≡ database_difference tables rows (after tables rows l.change l.id) → IsReadable m (step_of tables rows l)
      → TellsLink tables ls k (talk_of (notice (step_of tables rows l)))
  one_link k rows l at before behind is readable =
      let s = step_of tables rows l in
      subst (TellsLink tables ls k) (sym (says_update s readable)) (record {
        link = l;
        found = at;
        id_is = refl;
        spells = readable.updates_back tables rows (after tables rows l.change l.id) relay.whole before behind (applied_step tables rows l.change l.id) ∙ ap Ok (sym is);
      })

  notices_at : (k : ℕ) (s : Step) → m.position ≤ k → notices (m ∷ []) (k, s) ≡ notice s ∷ []
  notices_at k s le =
      let reached : nat_le m.position k ≡ true = grind (arith, nat_tests) in
      ap (λ b. cons_option (cond b (notice_of s m) None) []) reached ∙ ap (λ o. cons_option o []) (told_one s)

  none_before : (k : ℕ) (s : Step) → k < m.position → notices (m ∷ []) (k, s) ≡ []
  none_before k s lt =
      let past : nat_le m.position k ≡ false = grind (arith, nat_tests) in
      ap (λ b. cons_option (cond b (notice_of s m) None) []) past

  -- ---- all steps

  abbrev Reads : ℕ → List Step → Type 0
  Reads k steps = AllByRecursion (λ s. AllByRecursion (IsToldReadably s) (m ∷ [])) (enumerate_from k steps)

  late : (k : ℕ) (rows : Rows) (chain : List Link) → m.position ≤ k → AreDifferences tables rows chain → ((j : ℕ) (l : Link) → slice_get chain j ≡ Some l → slice_get ls (k + j) ≡ Some l)
      → Reads k (steps_of tables rows chain) → TellLinks tables ls k (k + length chain) (flat_map (notices (m ∷ [])) (enumerate_from k (steps_of tables rows chain)))
  late k rows [] le are at reads = omega arith
  late k rows (l ∷ chain) le are at reads =
      let s = step_of tables rows l in
      let next = after tables rows l.change l.id in
      let here : k + 0 ≡ k = omega arith in
      let found : slice_get ls k ≡ Some l = subst (λ j. slice_get ls j ≡ Some l) here (at 0 l refl) in
      let rest = late (k + 1) next chain (omega (arith, le)) are.3
      (λ j l e. (let moved : k + suc j ≡ k + 1 + j = omega arith in subst (λ n. slice_get ls n ≡ Some l) moved (at (suc j) l e))) reads.1 in
      let later = flat_map (notices (m ∷ [])) (enumerate_from (k + 1) (steps_of tables next chain)) in
      let sum : k + 1 + length chain ≡ k + length (l ∷ chain) = omega arith in
      let one : k + 1 ≡ suc k = omega arith in
      subst (TellLinks tables ls k (k + length (l ∷ chain))) (ap (λ (ms : List Message). ms ++ later) (sym (notices_at k s le))) (
        one_link k rows l found are.0 are.1 are.2 (reads.0.0 le relay.notation),
        subst (λ j. TellLinks tables ls j (k + length (l ∷ chain)) later) one (subst (λ t. TellLinks tables ls (k + 1) t later) sum rest),
      )

  early : (k : ℕ) (rows : Rows) (chain : List Link) → k ≤ m.position → m.position ≤ k + length chain → AreDifferences tables rows chain → ((j : ℕ) (l : Link) → slice_get chain j ≡ Some l → slice_get ls (k + j) ≡ Some l)
      → Reads k (steps_of tables rows chain) → TellLinks tables ls m.position (k + length chain) (flat_map (notices (m ∷ [])) (enumerate_from k (steps_of tables rows chain)))
  early k rows [] le within are at reads = omega (arith, le, within)
  early k rows (l ∷ chain) le within are at reads =
      let s = step_of tables rows l in
      let next = after tables rows l.change l.id in
      let later = flat_map (notices (m ∷ [])) (enumerate_from (k + 1) (steps_of tables next chain)) in
      let sum : k + 1 + length chain ≡ k + length (l ∷ chain) = omega arith in
      ⊎_elim
      (λ (lt : k < m.position).
      subst (TellLinks tables ls m.position (k + length (l ∷ chain))) (ap (λ (ms : List Message). ms ++ later) (sym (none_before k s lt)))
      (subst (λ t. TellLinks tables ls m.position t later) sum (early (k + 1) next chain (omega (arith, lt)) (omega (arith, within)) are.3
      (λ j l e. (let moved : k + suc j ≡ k + 1 + j = omega arith in subst (λ n. slice_get ls n ≡ Some l) moved (at (suc j) l e))) reads.1)))
      (λ (ge : m.position ≤ k).
      let same : k ≡ m.position = omega (arith, ge, le) in
      subst (λ p. TellLinks tables ls p (k + length (l ∷ chain)) (flat_map (notices (m ∷ [])) (enumerate_from k (steps_of tables rows (l ∷ chain))))) same
      (late k rows (l ∷ chain) ge are at reads))
      (cases_lt k m.position)

get_taken : (n : ℕ) (ls : List Link) (j : ℕ) (l : Link) → slice_get (take n ls) j ≡ Some l → slice_get ls j ≡ Some l
get_taken zero ls j l e = absurd cc
get_taken (suc n) [] j l e = e
get_taken (suc n) (x ∷ ls) zero l e = e
get_taken (suc n) (x ∷ ls) (suc j) l e = get_taken n ls j l e

pub told_links : (tables : List Table) (e : Epoch) (n : ℕ) (m : Subscription) → IsHistory tables no_rows e.commits → n ≤ length e.commits → IsRelayMonitor tables m → m.position ≤ n
    → AreToldReadably (m ∷ []) (steps_of tables no_rows (take n (links_within tables e)))
    → TellLinks tables (links_within tables e) m.position n (told (m ∷ []) (steps_of tables no_rows (take n (links_within tables e))))
told_links tables e n m history le relay within reads =
    let ls = links_within tables e in
    let long : length (take n ls) ≡ n = let all = length_links tables e.start no_rows e.commits in omega (arith, length-take n ls, all, le) in
    let total : 0 + length (take n ls) ≡ n = omega (arith, long) in
    subst (λ t. TellLinks tables ls m.position t (told (m ∷ []) (steps_of tables no_rows (take n ls)))) total
    (early tables ls m relay 0 no_rows (take n ls) (omega arith) (omega (arith, long, within)) (of_commits tables n e.start no_rows e.commits history.commits)
    (λ j l at. (let same : j ≡ 0 + j = omega arith in subst (λ i. slice_get ls i ≡ Some l) same (get_taken n ls j l at))) reads)
