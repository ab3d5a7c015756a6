-- What dropping old links makes of a store and of the account.
use Rattle.std.proofs.Common.{◌≡◌, ◌≢◌, ◌⊎◌, inl, inr, ⊎_elim, ℕ, ◌+◌, ◌≤◌, ◌<◌, List, [], ◌∷◌, ◌++◌, map, Option, Some, None, refl, sym, ap, subst, ◌∙◌, arith}
use Rattle.std.proofs.lemmas.Bool.{cases_eq}
use Rattle.std.specs.Ordering.{nat_cmp}
use Rattle.std.specs.FinMap.{FinMap, get, len, remove}
use Rattle.ovs_sync.specs.declared.feed.item.Item.{Item}
use Rattle.ovs_rows.specs.Row.{no_rows}
use Rattle.ovs_links.specs.Chains.{head_after}
use Rattle.ovs_links.specs.Outcomes.{with_links}
use Rattle.ovs_links.specs.Pruning.{IsOld, IsPruned}
use Rattle.ovs_links.specs.Sets.{AllOf, Among, Holds}
use Rattle.ovs_links.specs.Settling.{chain_of, settled_beside, settled_of}
use Rattle.ovs_links.specs.Store.{Stored, IsChainOf, IsStore, start_in, tables_of}
use Rattle.ovs_links.specs.declared.link.Link.{Link}
use Rattle.ovs_links.proofs.ChainOutcomes.{followed_is_whole}
use Rattle.ovs_links.proofs.MapLemmas.{remove_other}
use Rattle.ovs_links.proofs.PruneLemmas.{none_old, len_less, len_within}
use Rattle.ovs_node.specs.Ledger.{IntakeValue, IsAccountOf, IsGone, counted, forks_in, kept_as, shorts_in, taken_of}
use Rattle.ovs_node.proofs.Fates.{taken_came}
use Rattle.ovs_node.proofs.Takings.{old_weaker}

-- ---- what follows the chain isn't old

all_at : (P : Link → Type 0) (ls : List Link) (l : Link) → AllOf P ls → Among ls l → P l
all_at P [] l all a = absurd a
all_at P (x ∷ xs) l all (inl e) = subst P (sym e) all.0
all_at P (x ∷ xs) l all (inr a) = all_at P xs l all.1 a

last_of : (l : Link) (ls : List Link) → (d : Link) × Among (l ∷ ls) d × (d.id ≡ head_after 0 (l ∷ ls))
last_of l [] = (l, inl refl, refl)
last_of l (m ∷ ms) = let t = last_of m ms in (t.0, inr t.1, t.2)

module _ (s : Stored) (is : IsStore s) where
  -- a link from the id of a held one that isn't old isn't old
  behind : (d l : Link) → Holds s.links d → (IsOld (Holds s.links) (start_in s) d → ⊥) → l.prev ≡ d.id → IsOld (Holds s.links) (start_in s) l → ⊥
  behind d l held new at (from, lt, ([], b)) = (let high = (is.ends d held).0 in let low = is.start in omega (arith, high, low, at, b, lt))
  behind d l held new at (from, lt, (m ∷ ms, b)) =
      let same : m ≡ d = is.set.consistent.by_id m d b.0 held (b.1 ∙ at) in
      new (subst (λ (x : Link). IsOld (Holds s.links) (start_in s) x) same (from, lt, (ms, b.2)))

  follows_new : (ls : List Link) → s.folded ≡ ls → (l : Link) → l.prev ≡ head_after 0 ls → IsOld (Holds s.links) (start_in s) l → ⊥
  follows_new [] e l at old = (let start = ap start_in_of e in let lt = old.1 in omega (arith, start, lt))
    where
      start_in_of : List Link → ℕ
      start_in_of ls = start_in (record { schema = s.schema; links = s.links; folded = ls })
  follows_new (x ∷ xs) e l at old =
      let last = last_of x xs in
      let news = none_old (Holds s.links) is.set.consistent is.ends (start_in s) is.start (tables_of s) (start_in s) no_rows s.folded (inl refl) is.chain.members is.chain.joined in
      let d = all_at (λ (y : Link). Holds s.links y × (IsOld (Holds s.links) (start_in s) y → ⊥)) s.folded last.0 news (subst (λ (ls : List Link). Among ls last.0) (sym e) last.1) in
      behind last.0 l d.0 d.1 (at ∙ sym last.2) old

-- ---- the store

module _ (s t : Stored) (is : IsStore s) (now : IsStore t) (pruned : IsPruned s.links t.links (start_in s)) (kept : t ≡ with_links s t.links) where
  pub same_folded : t.folded ≡ s.folded
  same_folded = ap (λ x. x.folded) kept

  fewer : (q : ℕ) (l : Link) → get t.links q ≡ Some l → get s.links q ≡ Some l
  fewer q l e =
      let at = now.set.keyed q l e in
      subst (λ (i : ℕ). get s.links i ≡ Some l) at ((pruned l).0 (subst (λ (i : ℕ). get t.links i ≡ Some l) (sym at) e)).0

  pub none_left : (l : Link) → Holds t.links l → IsOld (Holds t.links) (start_in t) l → ⊥
  none_left l h old =
      ((pruned l).0 h).1 (old_weaker (Holds t.links) (Holds s.links) (λ x a. ((pruned x).0 a).0) (start_in t) (start_in s) (let same = ap (λ x. start_in x) kept in omega (arith, same)) l old)

  follows_same : (h : ℕ) (o : Option Link) → get s.links h ≡ o → h ≡ head_after 0 s.folded → get t.links h ≡ get s.links h
  follows_same h None e at = none (get t.links h) refl
    where
      none : (o : Option Link) → get t.links h ≡ o → get t.links h ≡ get s.links h
      none None f = f ∙ sym e
      none (Some l) f = absurd (cc (fewer h l f, e))
  follows_same h (Some l) e at =
      let prev = is.set.keyed h l e in
      let held : Holds s.links l = subst (λ (i : ℕ). get s.links i ≡ Some l) (sym prev) e in
      let stays : Holds t.links l = (pruned l).1 (held, follows_new s is s.folded refl l (prev ∙ at)) in
      subst (λ (i : ℕ). get t.links i ≡ Some l) prev stays ∙ sym e

  module _ (settled : s.folded ≡ chain_of s) (chain : IsChainOf t t.folded) where
    pub same_chain : t.folded ≡ chain_of t
    same_chain = sym ((followed_is_whole t now).only t.folded chain)

    pub same_settled : settled_of t ≡ settled_of s
    same_settled =
        let ends : head_after 0 (chain_of t) ≡ head_after 0 s.folded = ap (λ (ls : List Link). head_after 0 ls) (sym same_chain ∙ same_folded) in
        ap (λ (h : ℕ). settled_beside (get t.links h)) ends
        ∙ ap settled_beside (follows_same (head_after 0 s.folded) (get s.links (head_after 0 s.folded)) refl refl)
        ∙ ap (λ (ls : List Link). settled_beside (get s.links (head_after 0 ls))) settled

  -- where as many are held, the same are
  pub all_stay : len t.links ≡ len s.links → (l : Link) → Holds s.links l → Holds t.links l
  all_stay size l held = by (get t.links l.prev) refl
    where
      less : get t.links l.prev ≡ None → (q : ℕ) (x : Link) → get t.links q ≡ Some x → get (remove s.links l.prev) q ≡ Some x
      less none q x e = remove_other s.links l.prev q (λ same. absurd (cc (e, ap (λ (i : ℕ). get t.links i) same, none))) ∙ fewer q x e

      by : (o : Option Link) → get t.links l.prev ≡ o → Holds t.links l
      by None e = (let one = len_less s.links l.prev l held in let few = len_within t.links (remove s.links l.prev) (less e) in absurd (omega (arith, one, few, size)))
      by (Some x) e = (let same = fewer l.prev x e in cc (e, same, held))

-- ---- the account

pub account_pruned : (i j : IntakeValue) (n : ℕ) → IsAccountOf i → IsStore i.store → IsStore j.store → IsPruned i.store.links j.store.links (start_in i.store) → j.store ≡ with_links i.store j.store.links
    → n + len j.store.links ≡ len i.store.links → j.dropped ≡ counted (i.dropped + n) → j.feed ≡ i.feed → j.kept ≡ i.kept → j.untold ≡ i.untold → j.forks ≡ i.forks → j.short ≡ i.short → IsAccountOf j
account_pruned i j n k is now pruned store count dropped feed kept untold forks short =
    record {
      done = k.done;
      split = ap (λ v. map (λ (m : Item Link). m.value) v.taken) feed ∙ k.split ∙ ap (λ o. k.done ++ kept_as o) (sym kept);
      fates = k.fates;
      are = k.are;
      held = λ x h. k.held x ((pruned x).0 h).0;
      stays = stays;
      gone = k.gone + n;
      all = (let size = k.all in omega (arith, size, count));
      dropped = (let was = k.dropped in omega (arith, was, dropped));
      told = k.told;
      all_told = k.all_told ∙ ap (λ rs. k.told ++ rs) (sym untold);
      forks = forks ∙ k.forks ∙ ap (λ rs. counted (forks_in (k.told ++ rs))) (sym untold);
      short = short ∙ k.short ∙ ap (λ rs. counted (shorts_in (k.told ++ rs))) (sym untold);
    }
  where
    start : start_in i.store ≡ start_in j.store
    start = sym (ap (λ x. start_in x) store)

    stays : (x : Link) → Among (taken_of k.done k.fates) x → (IsGone k.done j x → ⊥) → Holds j.store.links x
    stays x a not = ⊎_elim
        (λ (none : j.dropped ≡ 0).
        all_stay i.store j.store is now pruned store (omega (arith, none, dropped, count)) x (k.stays x a (λ g. g.0 (omega (arith, none, dropped)))))
        (λ (some : j.dropped ≢ 0).
        let new : IsOld (Among k.done) (start_in j.store) x → ⊥ = λ old. not (some, old) in
        let held : Holds i.store.links x = k.stays x a (λ g. new (subst (λ (b : ℕ). IsOld (Among k.done) b x) start g.1)) in
        (pruned x).1 (held, λ old. new (old_weaker (Holds i.store.links) (Among k.done) (λ y h. taken_came k.done k.fates y (k.held y h)) (start_in i.store) (start_in j.store) (omega (arith, start)) x old)))
        (cases_eq j.dropped 0)
