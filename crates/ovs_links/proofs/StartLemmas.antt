-- Where the chain of held links begins, and one that begins anew.
use Rattle.std.proofs.Common.{◌≡◌, ℕ, ◌<◌, ◌≤◌, ◌^◌, ◌⊎◌, inl, inr, true, false, List, [], ◌∷◌, ◌++◌, Option, Some, None, refl, sym, ◌∙◌, ap, subst, arith, ⊎_elim}
use Rattle.std.proofs.lemmas.Bool.{cases_lt}
use Rattle.std.specs.FinMap.{get, insert}
use Rattle.ovs_rows.specs.Row.{no_rows}
use Rattle.ovs_rows.specs.After.{fits}
use Rattle.ovs_links.specs.Link.{IsStart}
use Rattle.ovs_links.specs.Sets.{AllOf, Holds}
use Rattle.ovs_links.specs.Chains.{JoinUp, GrowsInto, start_of, head_after}
use Rattle.ovs_links.specs.Epochs.{Opens, IsOpening, IsLatestChain}
use Rattle.ovs_links.specs.Held.{AreHeld}
use Rattle.ovs_links.specs.Pruning.{IsPruned, IsPrevBetween}
use Rattle.ovs_links.specs.Restarting.{IsGreaterStart, IsStartUpTo, fits_none}
use Rattle.ovs_links.specs.Steps.{FoldedValue, folded_of, folded_with, tables_in}
use Rattle.ovs_links.specs.StepChains.{start_at, head_after_steps}
use Rattle.ovs_links.specs.Store.{IsChainOf}
use Rattle.ovs_links.specs.Kept.{IsKept, IsSound, chain_in, stored_of}
use Rattle.ovs_links.specs.Settling.{KeepsLinks}
use Rattle.ovs_links.specs.declared.link.Link.{Link}
use Rattle.ovs_links.proofs.ChainLemmas.{AllOf-weaker}
use Rattle.ovs_links.proofs.GrowLemmas.{start_push, grows_itself, grows_later, latest_start}
use Rattle.ovs_links.proofs.JoinLemmas.{Links, at_prev}
use Rattle.ovs_links.proofs.KeptLemmas.{chain_of_steps, chain_is, chain_among, chain_more, kept_chain, kept_below, kept_start, kept_head}
use Rattle.ovs_links.proofs.PruneLemmas.{none_old, pruned_latest, set_within, len_within}
use Rattle.ovs_links.proofs.TakeLemmas.{holds_more, held_before, IsNewIn}

same_Some : (x y : Link) → Some x ≡ Some y → x ≡ y
same_Some x y e = cc

true_false : true ≡ false → ⊥
true_false e = cc

-- ---- the greatest start

module _ (m : Links) (start after prev : ℕ) (h : AreHeld m) (above : start ≤ after) (next : IsPrevBetween m after (2 ^ 64) (Some prev)) where
  stands : (o : Option Link) → get m prev ≡ o → fits_none (get m prev) ≡ true → (l : Link) × Opens (Holds m) l × (l.prev ≡ prev)
  stands None e t = absurd (true_false (sym t ∙ ap fits_none e))
  stands (Some l) e t =
      let at = h.set.keyed prev l e in
      (l, record { member = at_prev m prev l h.set.keyed e; from_start = (let lt = next.1 in omega (arith, lt, at)); fits_none = sym (ap fits_none e) ∙ t }, at)

  pub start_yes : fits_none (get m prev) ≡ true → IsStartUpTo m start prev (Some prev)
  start_yes t = (
    (let n = next.0 in omega (arith, n, above)),
    omega arith,
    stands (get m prev) refl t,
    λ l o le. le,
  )

  -- what opens and comes up to there, came before
  earlier : fits_none (get m prev) ≡ false → (l : Link) → Opens (Holds m) l → l.prev ≤ prev → l.prev ≤ after
  earlier t l o le =
      ⊎_elim (λ (past : after < l.prev).
      let least = next.2 l o.member past in
      let same : l.prev ≡ prev = omega (arith, least, le) in
      absurd (true_false (sym o.fits_none ∙ sym (ap fits_none (ap (λ (q : ℕ). get m q) (sym same) ∙ o.member)) ∙ t)))
      (λ (n : l.prev ≤ after). n) (cases_lt after l.prev)

  pub start_no : (found : Option ℕ) → fits_none (get m prev) ≡ false → IsStartUpTo m start after found → IsStartUpTo m start prev found
  start_no None t up = λ l o le. up l o (earlier t l o le)
  start_no (Some p) t up = (up.0, (let n = next.0 in let le = up.1 in omega (arith, n, le)), up.2, λ l o le. up.3 l o (earlier t l o le))

pub start_end : (m : Links) (start after : ℕ) (found : Option ℕ) → IsPrevBetween m after (2 ^ 64) None → IsStartUpTo m start after found → IsGreaterStart m start found
start_end m start after found none up = by_case found up
  where
    last : (l : Link) → Opens (Holds m) l → l.prev ≤ after
    last l o =
        ⊎_elim (λ (past : after < l.prev). let high = none l o.member past in let low = o.from_start in absurd (omega (arith, high, low))) (λ (n : l.prev ≤ after). n) (cases_lt after l.prev)

    by_case : (o : Option ℕ) → IsStartUpTo m start after o → IsGreaterStart m start o
    by_case None up = λ l o. up l o (last l o)
    by_case (Some p) up = (up.0, up.2, λ l o. up.3 l o (last l o))

-- ---- the folded part

module _ (m : Links) (f : FoldedValue) (k : IsKept m f) where
  pub opening_here : ((l : Link) → Opens (Holds m) l → l.prev ≤ start_at f) → IsOpening (Holds m) (start_of (chain_in m f.steps))
  opening_here most =
      record {
        found = by_chain (chain_in m f.steps) (kept_chain m f k).members (kept_chain m f k).joined (kept_below m f k);
        greatest = λ l o. subst (λ (i : ℕ). l.prev ≤ i) (kept_start m f k) (most l o);
      }
    where
      by_chain : (ls : List Link) → AllOf (Holds m) ls → JoinUp (tables_in f) (start_of ls) no_rows ls → IsStart (start_of ls)
          → (start_of ls ≡ 0) ⊎ ((l : Link) × Opens (Holds m) l × (l.prev ≡ start_of ls))
      by_chain [] a j below = inl refl
      by_chain (x ∷ xs) a j below = inr (x, record { member = a.0; from_start = below; fits_none = j.1 }, refl)

  pub keeps_itself : KeepsLinks (stored_of m f) (stored_of m f)
  keeps_itself = record { schema = refl; links = refl; grows = grows_itself (chain_in m f.steps) }

  -- a chain that doesn't begin at the greatest start is not the whole
  pub not_whole : (l : Link) → Opens (Holds m) l → start_at f < l.prev → IsChainOf (stored_of m f) (chain_in m f.steps) → ⊥
  not_whole l o past c =
      let most = c.opening.greatest l o in
      let at = latest_start (tables_in f) (Holds m) (chain_in m f.steps) c in
      let same = kept_start m f k in
      omega (arith, most, at, same, past)

  -- a chain of one link
  module _ (l : Link) (opens : Opens (Holds m) l) where
    pub kept_begun : IsKept m (folded_of f.database.schema (l ∷ []))
    kept_begun =
        record {
          held = k.held;
          changes = k.changes;
          chain = l ∷ [];
          members = (opens.member, tt);
          start = opens.from_start;
          joined = (refl, opens.fits_none, tt);
          folded = refl;
        }

    pub chain_begun : chain_in m (folded_of f.database.schema (l ∷ [])).steps ≡ l ∷ []
    chain_begun = chain_of_steps m (tables_in f) no_rows (l ∷ []) (opens.member, tt)

    pub keeps_begun : start_at f < l.prev → KeepsLinks (stored_of m f) (stored_of m (folded_of f.database.schema (l ∷ [])))
    keeps_begun past =
        record {
          schema = refl;
          links = refl;
          grows = subst (λ (ls : List Link). GrowsInto (chain_in m f.steps) ls) (sym chain_begun) (grows_later (chain_in m f.steps) (l ∷ []) (subst (λ (i : ℕ). i < l.prev) (kept_start m f k) past));
        }

    pub opening_begun : ((h : Link) → Opens (Holds m) h → h.prev ≤ l.prev) → IsOpening (Holds m) (start_of (chain_in m (folded_of f.database.schema (l ∷ [])).steps))
    opening_begun most =
        subst (λ (ls : List Link). IsOpening (Holds m) (start_of ls)) (sym chain_begun) (record { found = inr (l, opens, refl); greatest = most })

  -- ---- without old links

  module _ (p : Links) (pruned : IsPruned m p (start_of (chain_in m f.steps))) (fewer : (q : ℕ) (l : Link) → get p q ≡ Some l → get m q ≡ Some l) where
    members_left : AllOf (Holds p) k.chain
    members_left =
        let ls = chain_in m f.steps in
        let c = kept_chain m f k in
        let fresh = none_old (Holds m) k.held.set.consistent k.held.ends (start_of ls) (kept_below m f k) (tables_in f) (start_of ls) no_rows ls (inl refl) c.members c.joined in
        subst (λ (ks : List Link). AllOf (Holds p) ks) (chain_is m f k) (AllOf-weaker _ (Holds p) (λ l a. (pruned l).1 a) ls fresh)

    pub kept_pruned : IsKept p f
    kept_pruned =
        record {
          held = record {
            set = set_within p m k.held.set fewer;
            ends = λ l a. k.held.ends l (fewer l.prev l a);
            few = let n = len_within p m fewer in let few = k.held.few in omega (arith, n, few);
          };
          changes = λ l a. k.changes l (fewer l.prev l a);
          chain = k.chain;
          members = members_left;
          start = k.start;
          joined = k.joined;
          folded = k.folded;
        }

    pub chain_pruned : chain_in p f.steps ≡ chain_in m f.steps
    chain_pruned = chain_among m p f k members_left ∙ sym (chain_is m f k)

    pub whole_pruned : IsChainOf (stored_of m f) (chain_in m f.steps) → IsChainOf (stored_of p f) (chain_in p f.steps)
    whole_pruned c =
        let ls = chain_in m f.steps in
        subst (λ (ks : List Link). IsLatestChain (tables_in f) (Holds p) ks) (sym chain_pruned)
        (pruned_latest (tables_in f) m p (start_of ls) ls k.held.set k.held.ends pruned c (latest_start (tables_in f) (Holds m) ls c))

-- ---- one more link

head_high : (from : ℕ) (ls : List Link) → 2 ^ 64 ≤ from → AllOf IsSound ls → 2 ^ 64 ≤ head_after from ls
head_high from [] high a = high
head_high from (l ∷ ls) high a = head_high l.id ls a.0.0 a.1

head_is_no_start : (ls : List Link) → AllOf IsSound ls → IsStart (head_after 0 ls) → head_after 0 ls ≡ 0
head_is_no_start [] a s = refl
head_is_no_start (l ∷ ls) a s = let high = head_high l.id ls a.0.0 a.1 in absurd (omega (arith, high, s))

-- a link that follows the head doesn't change where the chain begins
module _ (m : Links) (f : FoldedValue) (l : Link) (k : IsKept m f) (n : IsNewIn m (tables_in f) l) (absent : get m l.prev ≡ None) where
  more_opens : (h : Link) → Opens (Holds m) h → Opens (Holds (insert m l.prev l)) h
  more_opens h o = record { member = holds_more m l absent h o.member; from_start = o.from_start; fits_none = o.fits_none }

  less_opens : (h : Link) → Opens (Holds (insert m l.prev l)) h → Opens (Holds m) h ⊎ (h ≡ l)
  less_opens h o =
      ⊎_elim (λ (a : Holds m h). inl (record { member = a; from_start = o.from_start; fits_none = o.fits_none })) (λ (e : h ≡ l). inr e) (held_before m l h o.member)

  pub opening_append : l.prev ≡ head_after 0 (chain_in m f.steps) → IsOpening (Holds m) (start_of (chain_in m f.steps))
      → IsOpening (Holds (insert m l.prev l)) (start_of (chain_in m f.steps ++ l ∷ []))
  opening_append next o =
      let ls = chain_in m f.steps in
      subst (λ (i : ℕ). IsOpening (Holds (insert m l.prev l)) i) (sym (start_push ls l next))
      (record {
        found = ⊎_elim (λ (z : start_of ls ≡ 0). inl z) (λ (t : (h : Link) × Opens (Holds m) h × (h.prev ≡ start_of ls)). inr (t.0, more_opens t.0 t.1, t.2)) o.found;
        greatest = λ h x.
            ⊎_elim (λ (a : Opens (Holds m) h). o.greatest h a)
            (λ (e : h ≡ l).
            let at = ap (λ (y : Link). y.prev) e ∙ next in
            let zero_head = head_is_no_start ls (AllOf-weaker (Holds m) IsSound k.held.ends ls (kept_chain m f k).members) (subst IsStart at x.from_start) in
            omega (arith, at, zero_head)) (less_opens h x);
      })

  -- a link from a greater start begins the chain
  pub opening_restart : IsOpening (Holds m) (start_of (chain_in m f.steps)) → start_of (chain_in m f.steps) < l.prev → IsStart l.prev → fits no_rows l.change ≡ true
      → Holds (insert m l.prev l) l → IsOpening (Holds (insert m l.prev l)) l.prev
  opening_restart o past below fit there =
      record {
        found = inr (l, record { member = there; from_start = below; fits_none = fit }, refl);
        greatest = λ h x.
            ⊎_elim (λ (a : Opens (Holds m) h). let most = o.greatest h a in omega (arith, most, past)) (λ (e : h ≡ l). let at = ap (λ (y : Link). y.prev) e in omega (arith, at)) (less_opens h x);
      }

-- a held link that follows the head and fits doesn't either
pub opening_more : (m : Links) (f : FoldedValue) (l : Link) (k : IsKept m f) (at : get m (head_after_steps 0 f.steps) ≡ Some l) (fit : fits f.database.rows l.change ≡ true)
    → IsOpening (Holds m) (start_of (chain_in m f.steps)) → IsOpening (Holds m) (start_of (chain_in m (folded_with f l).steps))
opening_more m f l k at fit o =
    let next = k.held.set.keyed (head_after_steps 0 f.steps) l at ∙ kept_head m f k in
    subst (λ (i : ℕ). IsOpening (Holds m) i) (sym (ap (λ (ls : List Link). start_of ls) (chain_more m f l k at fit) ∙ start_push (chain_in m f.steps) l next)) o
