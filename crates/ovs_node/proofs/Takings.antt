-- What taking a link, telling the refused ones and dropping old ones make of the account.
use Rattle.std.proofs.Common.{◌≡◌, ◌≢◌, ◌⊎◌, inl, inr, ⊎_elim, ℕ, ◌+◌, ◌≤◌, ◌<◌, List, [], ◌∷◌, ◌++◌, length, length-append, append_assoc, map, Option, Some, None, Result, Ok, Err, refl, sym, ap, subst, ◌∙◌, arith}
use Rattle.std.proofs.lemmas.List.{append-nil, map-append}
use Rattle.std.specs.Ordering.{nat_cmp}
use Rattle.std.specs.FinMap.{FinMap, get, insert, len}
use Rattle.ovs_sync.specs.declared.feed.item.Item.{Item}
use Rattle.ovs_links.specs.Chains.{GrowsInto, IsPrefixOf, start_of}
use Rattle.ovs_links.specs.Pruning.{LeadsBack, IsOld}
use Rattle.ovs_links.specs.Sets.{Among, Holds, Contradict}
use Rattle.ovs_links.specs.Store.{Stored, IsStore, max_links, start_in}
use Rattle.ovs_links.specs.Answers.{Refutes, TakesAs}
use Rattle.ovs_links.specs.Outcomes.{after_take}
use Rattle.ovs_links.specs.declared.link.Link.{Link}
use Rattle.ovs_links.specs.declared.answer.By.{By}
use Rattle.ovs_links.specs.declared.answer.By.TheVariants.{Prev, Id}
use Rattle.ovs_links.specs.declared.answer.Took.{Took}
use Rattle.ovs_links.specs.declared.answer.Took.TheVariants.{New, Held}
use Rattle.ovs_links.specs.declared.answer.TakeError.{TakeError}
use Rattle.ovs_links.specs.declared.answer.TakeError.TheVariants.{Fork, Full, NoMemory}
use Rattle.ovs_links.proofs.MapLemmas.{insert_at, len_insert_new}
use Rattle.ovs_links.proofs.TakeLemmas.{no_prev, holds_more, held_before}
use Rattle.ovs_node.specs.declared.refused.RefusedLink.{RefusedLink}
use Rattle.ovs_node.specs.declared.refused.RefusedBecause.TheVariants as why
use Rattle.ovs_node.specs.Ledger.{Fate, Taken, Repeated, Against, NoRoom, IntakeValue, IsFate, IsAccountOf, IsGone, KeepsPruning, TellsMore, all_told_as, counted, forks_in, kept_as, shorts_in, taken_of, told_as}
use Rattle.ovs_node.proofs.Fates.{among_left, among_right, among_either, taken_and, told_and, fates_and, forks_and, shorts_and, on_from}

-- ---- old links

leads_weaker : (S T : Link → Type 0) → ((l : Link) → S l → T l) → (from : ℕ) (l : Link) (ms : List Link) → LeadsBack S from l ms → LeadsBack T from l ms
leads_weaker S T w from l [] b = b
leads_weaker S T w from l (m ∷ ms) b = (w m b.0, b.1, leads_weaker S T w from m ms b.2)

pub old_weaker : (S T : Link → Type 0) → ((l : Link) → S l → T l) → (a b : ℕ) → a ≤ b → (l : Link) → IsOld S a l → IsOld T b l
old_weaker S T w a b le l o = (o.0, (let below = o.1 in omega (arith, below, le)), (o.2.0, leads_weaker S T w o.0 l o.2.0 o.2.1))

-- ---- one more link

-- what a link with this fate makes of the held ones, beside those that were taken before
record Becomes (m n : FinMap nat_cmp Link) (all : List Link) (l : Link) (f : Fate) : Type 0 where
  fate : IsFate (all ++ taken_of (l ∷ []) (f ∷ [])) l f
  stays : (x : Link) → Holds m x → Holds n x
  mine : (x : Link) → Holds n x → Holds m x ⊎ Among (taken_of (l ∷ []) (f ∷ [])) x
  new : (x : Link) → Among (taken_of (l ∷ []) (f ∷ [])) x → Holds n x
  size : len n ≡ len m + length (taken_of (l ∷ []) (f ∷ []))

-- the same but for the store, the kept link, and what is counted and told
record TakesAside (i j : IntakeValue) : Type 0 where
  feed : j.feed ≡ i.feed
  dropped : j.dropped ≡ i.dropped
  start : start_in j.store ≡ start_in i.store
  taken : j.kept ≡ None

module _ (i j : IntakeValue) (l : Link) (f : Fate) (k : IsAccountOf i) (kept : i.kept ≡ Some l) (aside : TakesAside i j)
    (b : Becomes i.store.links j.store.links (taken_of k.done k.fates) l f)
    (untold : j.untold ≡ i.untold ++ told_as l f) (forks : j.forks ≡ counted (i.forks + forks_in (told_as l f))) (short : j.short ≡ counted (i.short + shorts_in (told_as l f))) where
  abbrev all : List Link
  all = taken_of k.done k.fates

  abbrev mine : List Link
  mine = taken_of (l ∷ []) (f ∷ [])

  abbrev done' : List Link
  done' = k.done ++ l ∷ []

  abbrev fates' : List Fate
  fates' = k.fates ++ f ∷ []

  all_is : taken_of done' fates' ≡ all ++ mine
  all_is = taken_and all k.done k.fates l f k.are

  told_is : k.told ++ j.untold ≡ (k.told ++ i.untold) ++ told_as l f
  told_is = ap (λ rs. k.told ++ rs) untold ∙ sym (append_assoc k.told i.untold (told_as l f))

  still_gone : (x : Link) → IsGone k.done i x → IsGone done' j x
  still_gone x g = (
    (λ none. g.0 (sym aside.dropped ∙ none)),
    old_weaker (Among k.done) (Among done') (among_left k.done (l ∷ [])) (start_in i.store) (start_in j.store) (let same = aside.start in omega (arith, same)) x g.1,
  )

  account_next : IsAccountOf j
  account_next =
      record {
        done = done';
        split = ap (λ v. map (λ (m : Item Link). m.value) v.taken) aside.feed ∙ k.split ∙ ap (λ o. k.done ++ kept_as o) kept ∙ sym (append-nil done') ∙ ap (λ o. done' ++ kept_as o) (sym aside.taken);
        fates = fates';
        are = fates_and k.done k.fates l f k.are b.fate;
        held = λ x h. subst (λ (ls : List Link). Among ls x) (sym all_is)
            (⊎_elim (λ (was : Holds i.store.links x). among_left all mine x (k.held x was)) (λ (a : Among mine x). among_right all mine x a) (b.mine x h));
        stays = λ x a not. ⊎_elim (λ (was : Among all x). b.stays x (k.stays x was (λ g. not (still_gone x g)))) (λ (was : Among mine x). b.new x was)
            (among_either all mine x (subst (λ (ls : List Link). Among ls x) all_is a));
        gone = k.gone;
        all = (let size = ap (λ (ls : List Link). length ls) all_is in let sum = length-append all mine in let was = k.all in let now = b.size in omega (arith, size, sum, was, now));
        dropped = aside.dropped ∙ k.dropped;
        told = k.told;
        all_told = told_and all k.done k.fates l f k.are ∙ ap (λ rs. rs ++ told_as l f) k.all_told ∙ sym told_is;
        forks = forks ∙ on_from i.forks (forks_in (k.told ++ i.untold)) (forks_in (told_as l f)) (forks_in (k.told ++ j.untold)) _ k.forks (ap forks_in told_is ∙ forks_and (k.told ++ i.untold) (told_as l f));
        short = short ∙ on_from i.short (shorts_in (k.told ++ i.untold)) (shorts_in (told_as l f)) (shorts_in (k.told ++ j.untold)) _ k.short (ap shorts_in told_is ∙ shorts_and (k.told ++ i.untold) (told_as l f));
      }

-- ---- what the store answers

pub same_schema : (s : Stored) (l : Link) (r : Result Took TakeError) → (after_take s l r).schema ≡ s.schema
same_schema s l (Ok New) = refl
same_schema s l (Ok Held) = refl
same_schema s l (Err e) = refl

pub same_start : (s : Stored) (l : Link) (r : Result Took TakeError) → start_in (after_take s l r) ≡ start_in s
same_start s l (Ok New) = refl
same_start s l (Ok Held) = refl
same_start s l (Err e) = refl

-- what refutes a link contradicts it, and has the ids that are told
refuted_by : (m : FinMap nat_cmp Link) (l : Link) (by : By) (p i : ℕ) → Refutes m l by p i → (h : Link) × Holds m h × Contradict h l × (p ≡ h.prev) × (i ≡ h.id)
refuted_by m l Prev p i r = (r.0, r.1, r.2, r.4, r.5)
refuted_by m l Id p i r = (r.1.0, r.1.1, r.1.2, r.1.4, r.1.5)

fate_of : Took → Fate
fate_of New = Taken
fate_of Held = Repeated

module _ (i : IntakeValue) (l : Link) (k : IsAccountOf i) (kept : i.kept ≡ Some l) where
  same_all : (f : Fate) → taken_of (l ∷ []) (f ∷ []) ≡ [] → IsFate (taken_of k.done k.fates) l f → Becomes i.store.links i.store.links (taken_of k.done k.fates) l f
  same_all f none is =
      record {
        fate = subst (λ (ls : List Link). IsFate (taken_of k.done k.fates ++ ls) l f) (sym none) (subst (λ (ls : List Link). IsFate ls l f) (sym (append-nil (taken_of k.done k.fates))) is);
        stays = λ x h. h;
        mine = λ x h. inl h;
        new = λ x a. (let bad : Among [] x = subst (λ (ls : List Link). Among ls x) none a in absurd bad);
        size = (let size = ap (λ (ls : List Link). length ls) none in omega (arith, size));
      }

  becomes : (t : Stored) (r : Took) → IsStore i.store → TakesAs i.store.links l (Ok r) → t ≡ after_take i.store l (Ok r) → (f : Fate) × (told_as l f ≡ []) × Becomes i.store.links t.links (taken_of k.done k.fates) l f
  becomes t New is takes e =
      let none = no_prev i.store.links l is.set.keyed takes.0 in
      rw (ap (λ x. x.links) e) (
        Taken,
        refl,
        record {
          fate = among_right (taken_of k.done k.fates) (l ∷ []) l (inl refl);
          stays = holds_more i.store.links l none;
          mine = λ x h. ⊎_elim (λ (a : Holds i.store.links x). inl a) (λ (a : x ≡ l). inr (inl a)) (held_before i.store.links l x h);
          new = λ x a. ⊎_elim (λ (same : x ≡ l). subst (λ y. Holds (insert i.store.links l.prev l) y) (sym same) (insert_at i.store.links l.prev l l.prev refl)) (λ (bad : ⊥). absurd bad) a;
          size = len_insert_new i.store.links l.prev l none;
        },
      )
  becomes t Held is takes e = rw (ap (λ x. x.links) e) (Repeated, refl, same_all Repeated refl (k.held l takes))

  pub took : (j : IntakeValue) (r : Took) → IsStore i.store → TakesAs i.store.links l (Ok r) → j.store ≡ after_take i.store l (Ok r)
      → j.feed ≡ i.feed → j.dropped ≡ i.dropped → j.kept ≡ None → j.untold ≡ i.untold → j.forks ≡ i.forks → j.short ≡ i.short → IsAccountOf j
  took j r is takes e feed dropped taken untold forks short =
      let b = becomes j.store r is takes e in
      account_next i j l b.0 k kept (record { feed = feed; dropped = dropped; start = ap start_in e ∙ same_start i.store l (Ok r); taken = taken }) b.2
      (untold ∙ sym (append-nil i.untold) ∙ ap (λ rs. i.untold ++ rs) (sym b.1))
      (let none = ap forks_in b.1 in let was = k.forks in omega (arith, forks, none, was))
      (let none = ap shorts_in b.1 in let was = k.short in omega (arith, short, none, was))

  -- the link that is named contradicts it
  pub forked : (j : IntakeValue) (link : Link) (by : By) (p q : ℕ) (err : TakeError) → err ≡ Fork link by p q → TakesAs i.store.links l (Err err) → j.store ≡ i.store
      → j.feed ≡ i.feed → j.dropped ≡ i.dropped → j.kept ≡ None
      → j.untold ≡ i.untold ++ record { prev = link.prev; id = link.id; why = why.Fork p q } ∷ [] → j.forks ≡ counted (i.forks + 1) → j.short ≡ i.short → IsAccountOf j
  forked j link by p q err is answer e feed dropped taken untold forks short =
      let takes : TakesAs i.store.links l (Err (Fork link by p q)) = subst (λ x. TakesAs i.store.links l (Err x)) is answer in
      let r = refuted_by i.store.links l by p q takes.1 in
      account_next i j l (Against r.0) k kept (record { feed = feed; dropped = dropped; start = ap start_in e; taken = taken })
      (rw (ap (λ x. x.links) e) (same_all (Against r.0) refl (k.held r.0 r.1, r.2)))
      (untold ∙ ap (λ (x : RefusedLink). i.untold ++ x ∷ []) (cc (takes.0, r.3, r.4)))
      (omega (arith, forks))
      (let was = k.short in omega (arith, short, was))

  pub crowded : (j : IntakeValue) (link : Link) (err : TakeError) → err ≡ Full link → TakesAs i.store.links l (Err err) → j.store ≡ i.store
      → j.feed ≡ i.feed → j.dropped ≡ i.dropped → j.kept ≡ None
      → j.untold ≡ i.untold ++ record { prev = link.prev; id = link.id; why = why.Full } ∷ [] → j.forks ≡ i.forks → j.short ≡ counted (i.short + 1) → IsAccountOf j
  crowded j link err is answer e feed dropped taken untold forks short =
      let takes : TakesAs i.store.links l (Err (Full link)) = subst (λ x. TakesAs i.store.links l (Err x)) is answer in
      account_next i j l NoRoom k kept (record { feed = feed; dropped = dropped; start = ap start_in e; taken = taken })
      (rw (ap (λ x. x.links) e) (same_all NoRoom refl (let full = takes.3 in let size = k.all in omega (arith, full, size))))
      (untold ∙ ap (λ (x : RefusedLink). i.untold ++ x ∷ []) (cc (takes.0)))
      (let was = k.forks in omega (arith, forks, was))
      (omega (arith, short))

pub handed_back : (m : FinMap nat_cmp Link) (l link : Link) (err : TakeError) → err ≡ NoMemory link → TakesAs m l (Err err) → link ≡ l
handed_back m l link err is answer = let takes : TakesAs m l (Err (NoMemory link)) = subst (λ x. TakesAs m l (Err x)) is answer in takes.0

-- ---- what is told

-- nothing more is to be told
pub tells_none : (i j : IntakeValue) (k : IsAccountOf i) → j.untold ≡ i.untold → j.forks ≡ i.forks → j.short ≡ i.short → TellsMore i j
tells_none i j k untold forks short =
    record { more = []; untold = untold ∙ sym (append-nil i.untold); forks = (let was = k.forks in omega (arith, forks, was)); short = (let was = k.short in omega (arith, short, was)) }

pub tells_both : (i j m : IntakeValue) → TellsMore i j → TellsMore j m → TellsMore i m
tells_both i j m a b =
    record {
      more = a.more ++ b.more;
      untold = b.untold ∙ ap (λ rs. rs ++ b.more) a.untold ∙ append_assoc i.untold a.more b.more;
      forks = (let sum = forks_and a.more b.more in let one = a.forks in let two = b.forks in omega (arith, sum, one, two));
      short = (let sum = shorts_and a.more b.more in let one = a.short in let two = b.short in omega (arith, sum, one, two));
    }

-- all that was to be told is told
pub all_were_told : (i : IntakeValue) → IsAccountOf i → IsAccountOf (record i { untold = [] })
all_were_told i k =
    record {
      done = k.done;
      split = k.split;
      fates = k.fates;
      are = k.are;
      held = k.held;
      stays = k.stays;
      gone = k.gone;
      all = k.all;
      dropped = k.dropped;
      told = k.told ++ i.untold;
      all_told = k.all_told ∙ sym (append-nil (k.told ++ i.untold));
      forks = k.forks ∙ ap (λ rs. counted (forks_in rs)) (sym (append-nil (k.told ++ i.untold)));
      short = k.short ∙ ap (λ rs. counted (shorts_in rs)) (sym (append-nil (k.told ++ i.untold)));
    }

-- ---- the same links

-- the same but for the feed's ends, for whether old links are dropped, and for a chain that may begin at a greater start
pub account_moved : (i j : IntakeValue) → IsAccountOf i → j.feed.taken ≡ i.feed.taken → j.kept ≡ i.kept → j.store.links ≡ i.store.links → start_in i.store ≤ start_in j.store
    → j.dropped ≡ i.dropped → j.untold ≡ i.untold → j.forks ≡ i.forks → j.short ≡ i.short → IsAccountOf j
account_moved i j k taken kept links rises dropped untold forks short =
    record {
      done = k.done;
      split = ap (λ ls. map (λ (m : Item Link). m.value) ls) taken ∙ k.split ∙ ap (λ o. k.done ++ kept_as o) (sym kept);
      fates = k.fates;
      are = k.are;
      held = λ x h. k.held x (subst (λ m. Holds m x) links h);
      stays = λ x a not. subst (λ m. Holds m x) (sym links)
          (k.stays x a (λ g. not ((λ none. g.0 (sym dropped ∙ none)), old_weaker (Among k.done) (Among k.done) (λ y b. b) (start_in i.store) (start_in j.store) rises x g.1)));
      gone = k.gone;
      all = k.all ∙ ap (λ m. len m + k.gone) (sym links);
      dropped = dropped ∙ k.dropped;
      told = k.told;
      all_told = k.all_told ∙ ap (λ rs. k.told ++ rs) (sym untold);
      forks = forks ∙ k.forks ∙ ap (λ rs. counted (forks_in (k.told ++ rs))) (sym untold);
      short = short ∙ k.short ∙ ap (λ rs. counted (shorts_in (k.told ++ rs))) (sym untold);
    }

-- one more came, and is kept
pub account_popped : (i j : IntakeValue) (m : Item Link) → IsAccountOf i → i.kept ≡ None → j.kept ≡ Some m.value → j.feed.taken ≡ i.feed.taken ++ m ∷ [] → j.store ≡ i.store
    → j.dropped ≡ i.dropped → j.untold ≡ i.untold → j.forks ≡ i.forks → j.short ≡ i.short → IsAccountOf j
account_popped i j m k none kept taken store dropped untold forks short =
    record {
      done = k.done;
      split = ap (λ ls. map (λ (x : Item Link). x.value) ls) taken ∙ map-append (λ (x : Item Link). x.value) i.feed.taken (m ∷ []) ∙ ap (λ ls. ls ++ m.value ∷ []) (k.split ∙ ap (λ o. k.done ++ kept_as o) none ∙ append-nil k.done) ∙ ap (λ o. k.done ++ kept_as o) (sym kept);
      fates = k.fates;
      are = k.are;
      held = λ x h. k.held x (subst (λ s. Holds s.links x) store h);
      stays = λ x a not. subst (λ s. Holds s.links x) (sym store)
          (k.stays x a (λ g. not ((λ none. g.0 (sym dropped ∙ none)), subst (λ s. IsOld (Among k.done) (start_in s) x) (sym store) g.1)));
      gone = k.gone;
      all = k.all ∙ ap (λ s. len s.links + k.gone) (sym store);
      dropped = dropped ∙ k.dropped;
      told = k.told;
      all_told = k.all_told ∙ ap (λ rs. k.told ++ rs) (sym untold);
      forks = forks ∙ k.forks ∙ ap (λ rs. counted (forks_in (k.told ++ rs))) (sym untold);
      short = short ∙ k.short ∙ ap (λ rs. counted (shorts_in (k.told ++ rs))) (sym untold);
    }

-- a chain that goes on from another begins no lower
pub grown_start : (xs ys : List Link) → GrowsInto xs ys → start_of xs ≤ start_of ys
grown_start xs ys g = by xs ys g.goes_on
  where
    by : (xs ys : List Link) → IsPrefixOf xs ys ⊎ (start_of xs < start_of ys) → start_of xs ≤ start_of ys
    by [] ys (inl p) = omega arith
    by (x ∷ xs) ys (inl p) = (let same = ap start_of p.1 in omega (arith, same))
    by xs ys (inr lt) = omega (arith, lt)

-- ---- from call to call

pub tells_then : (i j m : IntakeValue) → TellsMore i j → m.untold ≡ j.untold → m.forks ≡ j.forks → m.short ≡ j.short → TellsMore i m
tells_then i j m t untold forks short = record { more = t.more; untold = untold ∙ t.untold; forks = forks ∙ t.forks; short = short ∙ t.short }

pub keeps_same : (i j : IntakeValue) → j.prunes ≡ i.prunes → j.dropped ≡ i.dropped → KeepsPruning i j
keeps_same i j prunes dropped = record { same = prunes; off = λ e. dropped }

pub keeps_both : (i j m : IntakeValue) → KeepsPruning i j → KeepsPruning j m → KeepsPruning i m
keeps_both i j m a b = record { same = b.same ∙ a.same; off = λ e. b.off (a.same ∙ e) ∙ a.off e }
