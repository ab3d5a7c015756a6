-- A list read item by item, with the first of all faults: what its items stand for, and which faults it has.
use Rattle.std.proofs.Common.{◌≡◌, List, [], ◌∷◌, ◌++◌, Ok, Err, inl, inr, refl, sym, ap, subst, ◌∙◌, append_assoc, append-nil}
use Rattle.std.specs.Prelude.{◌⊎◌}
use Rattle.serde_json.specs.Data.{Data, Items, no_items, item}
use Rattle.ovs_json.specs.FirstFault.{first_of, both, with_one, IsWorst}
use Rattle.ovs_json.specs.Items.{SpellsEach}
use Rattle.ovs_json.proofs.FaultOrder.{map_worst, both_worst}
use Rattle.ovs_query.specs.declared.error.QueryError.{QueryError}
use Rattle.ovs_query.specs.Faults.{Read, rank}
use Rattle.ovs_query.specs.ConditionReading.{read_items}
use Rattle.ovs_query.specs.QueryFaults.{SomeItem}

module _ {X : Type 0} (read : Data → Read X) where
  -- a fault stays
  fault_stays : (e : QueryError) (ds : Items) (zs : List X) → read_items read (Err e) ds ≡ Ok zs → ⊥
  fault_stays e no_items zs h = cc
  fault_stays e (item d ds) zs h = by (read d) refl (λ f. fault_stays f ds zs)
    where
      by : (r : Read X) → read d ≡ r → ((f : QueryError) → read_items read (Err f) ds ≡ Ok zs → ⊥) → ⊥
      by (Ok x) is stays = stays e (subst (λ r. read_items read (with_one rank (Err e) r) ds ≡ Ok zs) is h)
      by (Err f) is stays = stays (first_of rank e f) (subst (λ r. read_items read (with_one rank (Err e) r) ds ≡ Ok zs) is h)

  one : (zs xs : List X) → ◌≡◌ {A = Read (List X)} (Ok zs) (Ok xs) → zs ≡ xs
  one zs xs e = cc

  module _ (Spells : Data → X → Type 0) where
    found_after : ((d : Data) (x : X) → read d ≡ Ok x → Spells d x) → (ds : Items) (xs zs : List X) → read_items read (Ok xs) ds ≡ Ok zs → (ys : List X) × (zs ≡ xs ++ ys) × SpellsEach Spells ds ys
    found_after each no_items xs zs h = ([], one zs xs (sym h) ∙ sym (append-nil xs), tt)
    found_after each (item d ds) xs zs h = by (read d) refl (λ x. found_after each ds (xs ++ x ∷ []) zs)
      where
        by : (r : Read X) → read d ≡ r → ((x : X) → read_items read (Ok (xs ++ x ∷ [])) ds ≡ Ok zs → (ys : List X) × (zs ≡ (xs ++ x ∷ []) ++ ys) × SpellsEach Spells ds ys)
            → (ys : List X) × (zs ≡ xs ++ ys) × SpellsEach Spells (item d ds) ys
        by (Ok x) is rest =
            let more = rest x (subst (λ r. read_items read (with_one rank (Ok xs) r) ds ≡ Ok zs) is h) in
            (x ∷ more.0, more.1 ∙ append_assoc xs (x ∷ []) more.0, (each d x is, more.2))
        by (Err e) is rest = absurd (fault_stays e ds zs (subst (λ r. read_items read (with_one rank (Ok xs) r) ds ≡ Ok zs) is h))

    -- what is read is spelled so
    pub items_found : ((d : Data) (x : X) → read d ≡ Ok x → Spells d x) → (ds : Items) (xs : List X) → read_items read (Ok []) ds ≡ Ok xs → SpellsEach Spells ds xs
    items_found each ds xs h = let p = found_after each ds [] xs h in subst (SpellsEach Spells ds) (sym p.1) p.2

    only_after : ((d : Data) (x : X) → Spells d x → read d ≡ Ok x) → (ds : Items) (xs ys : List X) → SpellsEach Spells ds ys → read_items read (Ok xs) ds ≡ Ok (xs ++ ys)
    only_after each no_items xs [] h = ap Ok (sym (append-nil xs))
    only_after each no_items xs (y ∷ ys) h = absurd h
    only_after each (item d ds) xs [] h = absurd h
    only_after each (item d ds) xs (y ∷ ys) h =
        ap (λ r. read_items read (with_one rank (Ok xs) r) ds) (each d y h.0) ∙ only_after each ds (xs ++ y ∷ []) ys h.1 ∙ ap Ok (append_assoc xs (y ∷ []) ys)

    -- what is spelled so is read
    pub items_only : ((d : Data) (x : X) → Spells d x → read d ≡ Ok x) → (ds : Items) (xs : List X) → SpellsEach Spells ds xs → read_items read (Ok []) ds ≡ Ok xs
    items_only each ds xs h = only_after each ds [] xs h

-- ---- the worst fault

-- it is the worst of whatever says the same
pub worst_as : {X : Type 0} (P Q : QueryError → Type 0) (r : Read X) → ((e : QueryError) → P e → Q e) → ((e : QueryError) → Q e → P e) → IsWorst rank P r → IsWorst rank Q r
worst_as P Q (Ok x) to from worst = λ e has. worst e (from e has)
worst_as P Q (Err e) to from worst = (to e worst.0, λ f has. worst.1 f (from f has))

module _ {X : Type 0} (read : Data → Read X) (Has : Data → QueryError → Type 0) (each : (d : Data) → IsWorst rank (Has d) (read d)) where
  -- of the items so far and those of a list
  worst_after : (P : QueryError → Type 0) (so_far : Read (List X)) (ds : Items) → IsWorst rank P so_far → IsWorst rank (λ e. P e ⊎ SomeItem Has ds e) (read_items read so_far ds)
  worst_after P so_far no_items worst = worst_as P (λ e. P e ⊎ ⊥) so_far (λ e. inl) (λ e h. elim h [ inl has ↦ has | inr none ↦ absurd none ]) worst
  worst_after P so_far (item d ds) worst =
      worst_as (λ e. (P e ⊎ Has d e) ⊎ SomeItem Has ds e) (λ e. P e ⊎ (Has d e ⊎ SomeItem Has ds e)) (read_items read (with_one rank so_far (read d)) ds)
      (λ e h. elim h [ inl first ↦ (elim first [ inl has ↦ inl has | inr has ↦ inr (inl has) ]) | inr rest ↦ inr (inr rest) ])
      (λ e h. elim h [ inl has ↦ inl (inl has) | inr rest ↦ (elim rest [ inl has ↦ inl (inr has) | inr has ↦ inr has ]) ])
      (worst_after (λ e. P e ⊎ Has d e) (with_one rank so_far (read d)) ds
      (map_worst rank (λ e. P e ⊎ Has d e) (λ p. p.0 ++ p.1 ∷ []) (both rank so_far (read d)) (both_worst rank P (Has d) so_far (read d) worst (each d))))

  -- of all items, the worst is the worst of the faults of any
  pub items_worst : (ds : Items) → IsWorst rank (SomeItem Has ds) (read_items read (Ok []) ds)
  items_worst ds =
      worst_as (λ e. ⊥ ⊎ SomeItem Has ds e) (SomeItem Has ds) (read_items read (Ok []) ds) (λ e h. elim h [ inl none ↦ absurd none | inr has ↦ has ]) (λ e. inr)
      (worst_after (λ e. ⊥) (Ok []) ds (λ e none. none))
