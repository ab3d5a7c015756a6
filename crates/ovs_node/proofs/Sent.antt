-- What came of the ends is what they sent.
use Rattle.std.proofs.Common.{◌≡◌, ◌≢◌, ◌≤◌, ◌<◌, ◌==◌, ◌⊎◌, inl, inr, ⊎_elim, ℕ, true, false, cond, List, [], ◌∷◌, ◌++◌, length, map, slice_index_or, None, refl, sym, ap, subst, ◌∙◌, arith}
use Rattle.std.proofs.lemmas.List.{append-nil}
use Rattle.std.proofs.lemmas.Bool.{cases_lt}
use Rattle.std.proofs.lemmas.Bool.Decides.{eqb_tells}
use Rattle.ovs_sync.specs.declared.feed.item.Item.{Item}
use Rattle.ovs_sync.specs.FeedRule.{values_of}
use Rattle.ovs_sync.specs.Feed.{FeedValue, IsDrained}
use Rattle.ovs_links.specs.Pruning.{IsOld}
use Rattle.ovs_links.specs.Sets.{Among, Contradict, Holds}
use Rattle.ovs_links.specs.Store.{start_in}
use Rattle.ovs_links.specs.declared.link.Link.{Link}
use Rattle.ovs_node.specs.Ledger.{Fate, Taken, Repeated, Against, NoRoom, AreFates, IntakeValue, IsAccountOf, WasSent, all_told_as, forks_in, kept_as, shorts_in, taken_of}
use Rattle.ovs_node.proofs.Fates.{came_taken, taken_came}
use Rattle.ovs_node.proofs.Takings.{old_weaker}

values_here : (i : Item Link) (came : List (Item Link)) (p : ℕ) (l : Link) → i.from ≡ p → Among (i.value ∷ values_of p came) l → Among (values_of p (i ∷ came)) l
values_here i came p l e a = ⊎_elim
    (λ (t : ((i.from == p) ≡ true) × (i.from ≡ p)). subst (λ b. Among (cond b (i.value ∷ values_of p came) (values_of p came)) l) (sym t.0) a)
    (λ (t : ((i.from == p) ≡ false) × (i.from ≢ p)). absurd (t.1 e)) (eqb_tells i.from p)

values_later : (i : Item Link) (came : List (Item Link)) (p : ℕ) (l : Link) → Among (values_of p came) l → Among (values_of p (i ∷ came)) l
values_later i came p l a = ⊎_elim
    (λ (t : ((i.from == p) ≡ true) × (i.from ≡ p)). subst (λ b. Among (cond b (i.value ∷ values_of p came) (values_of p came)) l) (sym t.0) (inr a))
    (λ (t : ((i.from == p) ≡ false) × (i.from ≢ p)). subst (λ b. Among (cond b (i.value ∷ values_of p came) (values_of p came)) l) (sym t.0) a) (eqb_tells i.from p)

-- a link that came, came of some end
came_of : (came : List (Item Link)) (l : Link) → Among (map (λ (i : Item Link). i.value) came) l → (p : ℕ) × Among (values_of p came) l
came_of [] l a = absurd a
came_of (i ∷ came) l (inl e) = (i.from, values_here i came i.from l refl (inl e))
came_of (i ∷ came) l (inr a) = let c = came_of came l a in (c.0, values_later i came c.0 l c.1)

values_came : (came : List (Item Link)) (p : ℕ) (l : Link) → Among (values_of p came) l → Among (map (λ (i : Item Link). i.value) came) l
values_came [] p l a = absurd a
values_came (i ∷ came) p l a = ⊎_elim
    (λ (t : ((i.from == p) ≡ true) × (i.from ≡ p)).
    let here : Among (i.value ∷ values_of p came) l = subst (λ b. Among (cond b (i.value ∷ values_of p came) (values_of p came)) l) t.0 a in
    ⊎_elim (λ (e : l ≡ i.value). inl e) (λ (more : Among (values_of p came) l). inr (values_came came p l more)) here)
    (λ (t : ((i.from == p) ≡ false) × (i.from ≢ p)). inr (values_came came p l (subst (λ b. Among (cond b (i.value ∷ values_of p came) (values_of p came)) l) t.0 a))) (eqb_tells i.from p)

-- where no two contradict, none is refused as a contradiction
none_against : (all ls : List Link) (fs : List Fate) → AreFates all ls fs → ((l h : Link) → Among ls l → Among all h → Contradict h l → ⊥) → forks_in (all_told_as ls fs) ≡ 0
none_against all [] fs are agree = refl
none_against all (x ∷ xs) [] are agree = refl
none_against all (x ∷ xs) (Taken ∷ fs) are agree = none_against all xs fs are.1 (λ l h a. agree l h (inr a))
none_against all (x ∷ xs) (Repeated ∷ fs) are agree = none_against all xs fs are.1 (λ l h a. agree l h (inr a))
none_against all (x ∷ xs) (Against h ∷ fs) are agree = absurd (agree x h (inl refl) are.0.0 are.0.1)
none_against all (x ∷ xs) (NoRoom ∷ fs) are agree = (let rest = none_against all xs fs are.1 (λ l h a. agree l h (inr a)) in omega (arith, rest))

module _ (i : IntakeValue) (k : IsAccountOf i) (kept : i.kept ≡ None) (drained : IsDrained i.feed) where
  all_done : map (λ (m : Item Link). m.value) i.feed.taken ≡ k.done
  all_done = k.split ∙ ap (λ o. k.done ++ kept_as o) kept ∙ append-nil k.done

  abbrev all : List Link
  all = taken_of k.done k.fates

  done_sent : length i.feed.returned ≡ i.feed.ends → (l : Link) → Among k.done l → WasSent i.feed.returned l
  done_sent back l done =
      let c = came_of i.feed.taken l (subst (λ ls. Among ls l) (sym all_done) done) in
      ⊎_elim (λ (lt : c.0 < i.feed.ends). (c.0, omega (arith, lt, back), subst (λ ls. Among ls l) (sym (drained.0 c.0 (omega (arith, lt, back)))) c.1))
      (λ (le : i.feed.ends ≤ c.0). let none : Among [] l = subst (λ ls. Among ls l) (drained.1 c.0 le) c.1 in absurd none) (under c.0 i.feed.ends)
    where
      under : (a b : ℕ) → (a < b) ⊎ (b ≤ a)
      under a b = cases_lt a b

  sent_done : (l : Link) → WasSent i.feed.returned l → Among k.done l
  sent_done l sent =
      let of_it : Among (values_of sent.0 i.feed.taken) l = subst (λ ls. Among ls l) (drained.0 sent.0 sent.1) sent.2 in
      subst (λ ls. Among ls l) all_done (values_came i.feed.taken sent.0 l of_it)

  told_is : all_told_as k.done k.fates ≡ k.told ++ i.untold
  told_is = k.all_told

  pub held_sent : length i.feed.returned ≡ i.feed.ends → (l : Link) → Holds i.store.links l → WasSent i.feed.returned l
  held_sent back l held = done_sent back l (taken_came k.done k.fates l (k.held l held))

  pub sent_held : length i.feed.returned ≡ i.feed.ends → i.forks ≡ 0 → i.short ≡ 0 → (l : Link) → WasSent i.feed.returned l
      → ((i.dropped ≢ 0) × IsOld (WasSent i.feed.returned) (start_in i.store) l → ⊥) → Holds i.store.links l
  sent_held back no_forks no_short l sent not =
      let forks : forks_in (all_told_as k.done k.fates) ≡ 0 = (let same = ap forks_in told_is in let n = k.forks in omega (arith, same, n, no_forks)) in
      let short : shorts_in (all_told_as k.done k.fates) ≡ 0 = (let same = ap shorts_in told_is in let n = k.short in omega (arith, same, n, no_short)) in
      k.stays l (came_taken all k.done k.fates k.are forks short l (sent_done l sent))
      (λ g. not (g.0, old_weaker (Among k.done) (WasSent i.feed.returned) (done_sent back) (start_in i.store) (start_in i.store) (omega arith) l g.1))

  pub none_forked : length i.feed.returned ≡ i.feed.ends → ((l m : Link) → WasSent i.feed.returned l → WasSent i.feed.returned m → Contradict l m → ⊥) → i.forks ≡ 0
  none_forked back agree =
      let none : forks_in (all_told_as k.done k.fates) ≡ 0 = none_against all k.done k.fates k.are
      (λ l h a b. agree h l (done_sent back h (taken_came k.done k.fates h b)) (done_sent back l a)) in
      (let same = ap forks_in told_is in let n = k.forks in omega (arith, same, n, none))
