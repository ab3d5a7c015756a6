-- A relay takes links of the source, and settles.
use Rattle.std.specs.FinMap.{get, insert, len}
use Rattle.std.proofs.Common.{◌≡◌, ◌≢◌, ◌+◌, ◌⊎◌, inl, inr, ⊎_elim, ℕ, List, [], ◌∷◌, ◌++◌, Option, Some, None, Err, refl, sym, ◌∙◌, ap, subst, arith}
use Rattle.std.proofs.lemmas.Bool.{cases_eq}
use Rattle.ovs_links.specs.Answers.{NonePrev, TakesAs}
use Rattle.ovs_links.specs.Runs.{HoldsBoth, IsRefusedAt}
use Rattle.ovs_links.specs.Settling.{KeepsLinks}
use Rattle.ovs_links.specs.Sets.{AllOf, Among, Contradict, Holds}
use Rattle.ovs_links.specs.Store.{Stored, IsStore}
use Rattle.ovs_links.specs.declared.answer.By.{By}
use Rattle.ovs_links.specs.declared.answer.By.TheVariants.{Prev, Id}
use Rattle.ovs_links.specs.declared.answer.TakeError.{TakeError}
use Rattle.ovs_links.specs.declared.answer.TakeError.TheVariants.{Fork, Full}
use Rattle.ovs_links.specs.declared.link.Link.{Link}
use Rattle.ovs_links.proofs.JoinLemmas.{Links, IsKeyed, at_prev}
use Rattle.ovs_links.proofs.MapLemmas.{insert_at, insert_other, len_insert_new}
use Rattle.ovs_links.proofs.EpochLemmas.{Among-left}
use Rattle.ovs_world.specs.Deliveries.{TakesSome}
use Rattle.ovs_world.specs.Nodes.{IsNode}
use Rattle.ovs_world.proofs.Counting.{few_held}

-- of the links of a source
module _ (source : Stored) where
  -- a store of its links that was settled, if perhaps not to the end
  pub node_settled : (mid new : Stored) → mid.schema ≡ source.schema → ((l : Link) → Holds mid.links l → Holds source.links l)
      → KeepsLinks mid new → IsStore new → IsNode source new
  node_settled mid new schema within keeps store = record {
    schema = keeps.schema ∙ schema;
    store = store;
    within = λ l held. within l (subst (λ (m : Links). Holds m l) keeps.links held);
  }

  among_all : (xs : List Link) (x : Link) → AllOf (Holds source.links) xs → Among xs x → Holds source.links x
  among_all [] x a m = absurd m
  among_all (y ∷ ys) x a (inl e) = subst (Holds source.links) (sym e) a.0
  among_all (y ∷ ys) x a (inr m) = among_all ys x a.1 m

  front_among : (before behind ls : List Link) → before ++ behind ≡ ls → AllOf (Holds source.links) ls → AllOf (Holds source.links) before
  front_among before behind ls place among = left before (subst (AllOf (Holds source.links)) (sym place) among)
    where
      left : (xs : List Link) → AllOf (Holds source.links) (xs ++ behind) → AllOf (Holds source.links) xs
      left [] a = tt
      left (x ∷ xs) a = (a.0, left xs a.1)

  behind_among : (before behind ls : List Link) (l : Link) → before ++ l ∷ behind ≡ ls → AllOf (Holds source.links) ls → Holds source.links l
  behind_among before behind ls l place among = (right before (subst (AllOf (Holds source.links)) (sym place) among)).0
    where
      right : (xs : List Link) → AllOf (Holds source.links) (xs ++ l ∷ behind) → AllOf (Holds source.links) (l ∷ behind)
      right [] a = a
      right (x ∷ xs) a = right xs a.1

  -- where one of them is refused, it and all that is held are of them
  refused_within : (S : Link → Type 0) (m : Links) (ls : List Link) (e : TakeError) → ((l : Link) → S l → Holds source.links l)
      → AllOf (Holds source.links) ls → (at : IsRefusedAt S m ls e) → ((x : Link) → Holds m x → Holds source.links x) × Holds source.links at.link
  refused_within S m ls e within among at = (
    λ x h. ⊎_elim (λ (s : S x). within x s) (λ (a : Among at.before x). among_all at.before x (front_among at.before (at.link ∷ at.behind) ls at.place among) a) ((at.held x).0 h),
    behind_among at.before at.behind ls at.link at.place among,
  )

  -- none of them contradicts another
  clash : IsStore source → (h l : Link) → Holds source.links h → Holds source.links l → Contradict h l → ⊥
  clash store h l a b c =
      ⊎_elim (λ (e : h.prev ≡ l.prev). c.0 (store.set.consistent.by_prev h l a b e)) (λ (e : h.id ≡ l.id). c.0 (store.set.consistent.by_id h l a b e)) c.1

  -- so they are never refused as contradictions
  pub never_fork : IsStore source → (S : Link → Type 0) (m : Links) (ls : List Link) (e : TakeError) (l : Link) (by : By) (p i : ℕ) → ((l : Link) → S l → Holds source.links l)
      → AllOf (Holds source.links) ls → IsRefusedAt S m ls e → e ≡ Fork l by p i → ⊥
  never_fork store S m ls e l by p i within among at is_fork =
      let answer : TakesAs m at.link (Err (Fork l by p i)) = subst (λ (x : TakeError). TakesAs m at.link (Err x)) is_fork at.answer in
      let both = refused_within S m ls e within among at in
      by_answer by both.0 both.1 answer
    where
      by_answer : (by : By) → ((x : Link) → Holds m x → Holds source.links x) → Holds source.links at.link → TakesAs m at.link (Err (Fork l by p i)) → ⊥
      by_answer Prev held link answer = clash store answer.1.0 at.link (held answer.1.0 answer.1.1) link answer.1.2
      by_answer Id held link answer = clash store answer.1.1.0 at.link (held answer.1.1.0 answer.1.1.1) link answer.1.1.2

  -- nor for want of room, since the source has room itself
  pub never_full : IsStore source → (S : Link → Type 0) (m : Links) (ls : List Link) (e : TakeError) (l : Link) → ((l : Link) → S l → Holds source.links l)
      → AllOf (Holds source.links) ls → IsRefusedAt S m ls e → e ≡ Full l → ⊥
  never_full store S m ls e l within among at is_full =
      let answer : TakesAs m at.link (Err (Full l)) = subst (λ (x : TakeError). TakesAs m at.link (Err x)) is_full at.answer in
      let both = refused_within S m ls e within among at in
      let link = at.link in
      let few = few_held (insert m link.prev link) source.links keyed_more store.set.keyed (λ x h. held both.0 both.1 x h) in
      let long : len (insert m link.prev link) ≡ len m + 1 = len_insert_new m link.prev link (free answer.1 (get m link.prev) refl) in
      let most = store.few in
      let full = answer.3 in
      omega (arith, few, long, most, full)
    where
      not_Some : (x y : Link) → Some x ≡ Some y → x ≡ y
      not_Some x y e = cc

      entry : (q : ℕ) (x : Link) → get (insert m at.link.prev at.link) q ≡ Some x → ((q ≡ at.link.prev) × (x ≡ at.link)) ⊎ (get m q ≡ Some x)
      entry q x h = ⊎_elim
          (λ (same : q ≡ at.link.prev). inl (same, not_Some x at.link (sym h ∙ insert_at m at.link.prev at.link q same)))
          (λ (other : q ≢ at.link.prev). inr (sym (insert_other m at.link.prev at.link q other) ∙ h)) (cases_eq q at.link.prev)

      keyed_more : IsKeyed (insert m at.link.prev at.link)
      keyed_more q x h = ⊎_elim (λ (new : (q ≡ at.link.prev) × (x ≡ at.link)). ap (λ (k : Link). k.prev) new.1 ∙ sym new.0) (λ (old : get m q ≡ Some x). at.set.keyed q x old) (entry q x h)

      held : ((x : Link) → Holds m x → Holds source.links x) → Holds source.links at.link → (x : Link) → Holds (insert m at.link.prev at.link) x → Holds source.links x
      held within link x h = ⊎_elim (λ (new : (x.prev ≡ at.link.prev) × (x ≡ at.link)). subst (Holds source.links) (sym new.1) link) (λ (old : get m x.prev ≡ Some x). within x old) (entry x.prev x h)

      free : NonePrev m at.link → (o : Option Link) → get m at.link.prev ≡ o → get m at.link.prev ≡ None
      free none None e = e
      free none (Some x) e = absurd (none x (at_prev m at.link.prev x at.set.keyed e) (at.set.keyed at.link.prev x e))

  -- after all links were taken
  pub node_taken : (old mid new : Stored) (ls : List Link) → IsNode source old → AllOf (Holds source.links) ls → HoldsBoth mid.links (Holds old.links) ls → mid.schema ≡ old.schema
      → KeepsLinks mid new → IsStore new → IsNode source new
  node_taken old mid new ls node among both schema keeps store =
      node_settled mid new (schema ∙ node.schema)
      (λ l h. ⊎_elim (λ (s : Holds old.links l). node.within l s) (λ (a : Among ls l). among_all ls l among a) ((both l).0 h)) keeps store

  -- after those before one that was refused
  pub node_stopped : (old mid new : Stored) (ls : List Link) (e : TakeError) → IsNode source old → AllOf (Holds source.links) ls → IsRefusedAt (Holds old.links) mid.links ls e → mid.schema ≡ old.schema
      → KeepsLinks mid new → IsStore new → IsNode source new
  node_stopped old mid new ls e node among at schema keeps store =
      node_taken old mid new at.before node (front_among at.before (at.link ∷ at.behind) ls at.place among) at.held schema keeps store

-- what was held is, after all links were taken
pub keeps_taken : (old mid new : Stored) (ls : List Link) → HoldsBoth mid.links (Holds old.links) ls → KeepsLinks mid new → (l : Link) → Holds old.links l → Holds new.links l
keeps_taken old mid new ls both keeps l h = subst (λ (m : Links). Holds m l) (sym keeps.links) ((both l).1 (inl h))

-- and of those of the list at most these were taken
pub takes_some : (old mid new : Stored) (xs rest ls : List Link) → xs ++ rest ≡ ls → HoldsBoth mid.links (Holds old.links) xs → KeepsLinks mid new → TakesSome old ls new
takes_some old mid new xs rest ls place both keeps l h =
    ⊎_elim (λ (s : Holds old.links l). inl s) (λ (a : Among xs l). inr (subst (λ (ys : List Link). Among ys l) place (Among-left xs rest l a)))
    ((both l).0 (subst (λ (m : Links). Holds m l) keeps.links h))
