-- Links of several epochs, and the chain of a set of them.
use Rattle.std.proofs.Common.{◌≡◌, ℕ, zero, suc, ◌<◌, ◌≤◌, ◌^◌, ◌⊎◌, inl, inr, List, [], ◌∷◌, ◌++◌, length, take, refl, sym, ◌∙◌, ap, subst, arith, ⊎_elim}
use Rattle.ovs_types.specs.declared.schema.Table.{Table}
use Rattle.ovs_rows.specs.Row.{Rows, no_rows}
use Rattle.ovs_rows.specs.DatabaseDifference.{database_difference}
use Rattle.ovs_rows.proofs.Laws.{difference_fits}
use Rattle.ovs_links.specs.Link.{IsStart}
use Rattle.ovs_links.specs.Sets.{AllOf, Among, Contradict, IsConsistent}
use Rattle.ovs_links.specs.Chains.{JoinUp, start_of, rows_after, IsLongestChain}
use Rattle.ovs_links.specs.History.{Commit, IsNoId, AreDistinct, IsHistory, links_of}
use Rattle.ovs_links.specs.Epochs.{Opens, IsOpening, IsLatestChain, Epoch, EpochsFrom, EpochHistory, IsEpochHistory, epochs_of, commits_in, links_within, links_in, last_rows, CarriesOn, start_now, rows_now, begun_epoch, IsNextEpoch, IsEpochIn, HoldsFirst, IsLatestEpoch, IsEpochChain}
use Rattle.ovs_links.specs.Answers.{AreOfOneSource}
use Rattle.ovs_links.specs.Kept.{IsSound}
use Rattle.ovs_links.specs.declared.link.Link.{Link}
use Rattle.ovs_links.proofs.ChainLemmas.{AllOf-weaker}
use Rattle.ovs_links.proofs.HistoryLemmas.{id_among, prev_among, by_prev_from, by_id_from, start_is_no_id, history_sound, history_rows, history_prefix, source_count, all_among, IsSource}

-- ---- lists

pub Among-append : (xs ys : List Link) (l : Link) → Among (xs ++ ys) l → Among xs l ⊎ Among ys l
Among-append [] ys l a = inr a
Among-append (x ∷ xs) ys l (inl e) = inl (inl e)
Among-append (x ∷ xs) ys l (inr a) = ⊎_elim (λ (b : Among xs l). inl (inr b)) (λ (b : Among ys l). inr b) (Among-append xs ys l a)

pub Among-left : (xs ys : List Link) (l : Link) → Among xs l → Among (xs ++ ys) l
Among-left [] ys l a = absurd a
Among-left (x ∷ xs) ys l (inl e) = inl e
Among-left (x ∷ xs) ys l (inr a) = inr (Among-left xs ys l a)

pub Among-right : (xs ys : List Link) (l : Link) → Among ys l → Among (xs ++ ys) l
Among-right [] ys l a = a
Among-right (x ∷ xs) ys l a = inr (Among-right xs ys l a)

AllOf-among : (P : Link → Type 0) (ls : List Link) (l : Link) → AllOf P ls → Among ls l → P l
AllOf-among P [] l all a = absurd a
AllOf-among P (x ∷ xs) l all (inl e) = subst P (sym e) all.0
AllOf-among P (x ∷ xs) l all (inr a) = AllOf-among P xs l all.1 a

AllOf-take : (P : Link → Type 0) (n : ℕ) (ls : List Link) → AllOf P ls → AllOf P (take n ls)
AllOf-take P zero ls a = tt
AllOf-take P (suc n) [] a = tt
AllOf-take P (suc n) (l ∷ ls) a = (a.0, AllOf-take P n ls a.1)

AllOf-both : (P Q : Link → Type 0) (ls : List Link) → AllOf P ls → AllOf Q ls → AllOf (λ l. P l × Q l) ls
AllOf-both P Q [] a b = tt
AllOf-both P Q (l ∷ ls) a b = ((a.0, b.0), AllOf-both P Q ls a.1 b.1)

pub IsNoId-left : (i : ℕ) (ks ls : List Commit) → IsNoId i (ks ++ ls) → IsNoId i ks
IsNoId-left i [] ls n = tt
IsNoId-left i (k ∷ ks) ls n = (n.0, IsNoId-left i ks ls n.1)

pub IsNoId-right : (i : ℕ) (ks ls : List Commit) → IsNoId i (ks ++ ls) → IsNoId i ls
IsNoId-right i [] ls n = n
IsNoId-right i (k ∷ ks) ls n = IsNoId-right i ks ls n.1

IsNoId-append : (i : ℕ) (ks ls : List Commit) → IsNoId i ks → IsNoId i ls → IsNoId i (ks ++ ls)
IsNoId-append i [] ls n m = m
IsNoId-append i (k ∷ ks) ls n m = (n.0, IsNoId-append i ks ls n.1 m)

AreDistinct-left : (ks ls : List Commit) → AreDistinct (ks ++ ls) → AreDistinct ks
AreDistinct-left [] ls d = tt
AreDistinct-left (k ∷ ks) ls d = (IsNoId-left k.id ks ls d.0, AreDistinct-left ks ls d.1)

AreDistinct-right : (ks ls : List Commit) → AreDistinct (ks ++ ls) → AreDistinct ls
AreDistinct-right [] ls d = d
AreDistinct-right (k ∷ ks) ls d = AreDistinct-right ks ls d.1

-- the id of a link is that of no later commit
cross : (ts : List Table) (start : ℕ) (rows : Rows) (ks ls : List Commit) (l : Link) → AreDistinct (ks ++ ls)
    → Among (links_of ts start rows ks) l → IsNoId l.id ls
cross ts start rows [] ls l d a = absurd a
cross ts start rows (k ∷ ks) ls l d (inl s) = subst (λ (i : ℕ). IsNoId i ls) (sym (ap (λ (x : Link). x.id) s)) (IsNoId-right k.id ks ls d.0)
cross ts start rows (k ∷ ks) ls l d (inr a) = cross ts k.id k.rows ks ls l d.1 a

-- a link leads from the start, or from the id of another
prev_is : (ts : List Table) (start : ℕ) (rows : Rows) (ks : List Commit) (l : Link) → Among (links_of ts start rows ks) l
    → (l.prev ≡ start) ⊎ ((m : Link) × Among (links_of ts start rows ks) m × (m.id ≡ l.prev))
prev_is ts start rows [] l a = absurd a
prev_is ts start rows (k ∷ ks) l (inl s) = inl (ap (λ (x : Link). x.prev) s)
prev_is ts start rows (k ∷ ks) l (inr a) =
    ⊎_elim (λ (e : l.prev ≡ k.id). inr (record { prev = start; id = k.id; change = database_difference ts rows k.rows }, inl refl, sym e))
    (λ (t : (m : Link) × Among (links_of ts k.id k.rows ks) m × (m.id ≡ l.prev)). inr (t.0, inr t.1, t.2)) (prev_is ts k.id k.rows ks l a)

-- ---- epochs whose starts rise from a floor

abbrev pub Rising : List Table → ℕ → List Epoch → Type 0
Rising ts floor [] = Unit {0}
Rising ts floor (e ∷ es) = (floor ≤ e.start) × IsStart e.start × IsHistory ts no_rows e.commits × Rising ts (suc e.start) es

rising_from : (ts : List Table) (start : ℕ) (rows : Rows) (es : List Epoch) → EpochsFrom ts start rows es → Rising ts (suc start) es
rising_from ts start rows [] r = tt
rising_from ts start rows (e ∷ es) r = (r.0, r.1, r.2, rising_from ts e.start (last_rows e.commits) es r.4)

pub rising_of : (ts : List Table) (h : EpochHistory) → IsEpochHistory ts h → Rising ts 0 (epochs_of h)
rising_of ts h k = (omega arith, omega arith, k.first, rising_from ts 0 (last_rows h.first) h.later k.later)

-- what is so of one of them
pub record IsGoodEpoch (ts : List Table) (floor : ℕ) (e : Epoch) : Type 0 where
  pub above : floor ≤ e.start
  pub below : IsStart e.start
  pub history : IsHistory ts no_rows e.commits

good : (ts : List Table) (floor : ℕ) (es : List Epoch) (e : Epoch) → Rising ts floor es → IsEpochIn es e → IsGoodEpoch ts floor e
good ts floor [] e r a = absurd a
good ts floor (d ∷ ds) e r (inl s) = subst (IsGoodEpoch ts floor) (sym s) (record { above = r.0; below = r.1; history = r.2 })
good ts floor (d ∷ ds) e r (inr a) =
    let g = good ts (suc d.start) ds e r.3 a in
    record { above = (let b = g.above in let n = r.0 in omega (arith, b, n)); below = g.below; history = g.history }

in_all : (ts : List Table) (es : List Epoch) (e : Epoch) (l : Link) → IsEpochIn es e → Among (links_within ts e) l → Among (links_in ts es) l
in_all ts [] e l a b = absurd a
in_all ts (d ∷ ds) e l (inl s) b = Among-left (links_within ts d) (links_in ts ds) l (subst (λ (x : Epoch). Among (links_within ts x) l) s b)
in_all ts (d ∷ ds) e l (inr a) b = Among-right (links_within ts d) (links_in ts ds) l (in_all ts ds e l a b)

sound_in : (ts : List Table) (e : Epoch) → IsStart e.start → IsHistory ts no_rows e.commits → AllOf IsSound (links_within ts e)
sound_in ts e below h = history_sound ts e.start no_rows e.commits (start_is_no_id e.start below e.commits h.no_start) h.distinct h.no_start

-- ids are those of commits
high : (ts : List Table) (e : Epoch) (l : Link) → IsStart e.start → IsHistory ts no_rows e.commits → Among (links_within ts e) l → 2 ^ 64 ≤ l.id
high ts e l below h a = (AllOf-among IsSound (links_within ts e) l (sound_in ts e below h) a).0

low_is_no_id : (ts : List Table) (floor i : ℕ) (es : List Epoch) → Rising ts floor es → IsStart i → IsNoId i (commits_in es)
low_is_no_id ts floor i [] r below = tt
low_is_no_id ts floor i (e ∷ es) r below = IsNoId-append i e.commits (commits_in es) (start_is_no_id i below e.commits r.2.no_start) (low_is_no_id ts (suc e.start) i es r.3 below)

id_in : (ts : List Table) (es : List Epoch) (i : ℕ) (l : Link) → IsNoId i (commits_in es) → Among (links_in ts es) l → l.id ≡ i → ⊥
id_in ts [] i l n a e = a
id_in ts (d ∷ ds) i l n a e =
    ⊎_elim (λ (b : Among (links_within ts d) l). id_among ts d.start no_rows d.commits i l (IsNoId-left i d.commits (commits_in ds) n) b e)
    (λ (b : Among (links_in ts ds) l). id_in ts ds i l (IsNoId-right i d.commits (commits_in ds) n) b e) (Among-append (links_within ts d) (links_in ts ds) l a)

-- an id below the floor or above all starts, which no commit has, is the prev of no link
abbrev IsApart : ℕ → ℕ → Type 0
IsApart floor i = (i < floor) ⊎ (2 ^ 64 ≤ i)

prev_in : (ts : List Table) (floor : ℕ) (es : List Epoch) (i : ℕ) (l : Link) → Rising ts floor es → IsApart floor i → IsNoId i (commits_in es)
    → Among (links_in ts es) l → l.prev ≡ i → ⊥
prev_in ts floor [] i l r off n a e = a
prev_in ts floor (d ∷ ds) i l r off n a e =
    let low : floor ≤ d.start = r.0 in
    let below : d.start < 2 ^ 64 = r.1 in
    let other : d.start ≡ i → ⊥ = λ same. ⊎_elim (λ (x : i < floor). omega (arith, x, low, same)) (λ (x : 2 ^ 64 ≤ i). omega (arith, x, below, same)) off in
    let further : IsApart (suc d.start) i = ⊎_elim (λ (x : i < floor). inl (omega (arith, x, low))) (λ (x : 2 ^ 64 ≤ i). inr x) off in
    ⊎_elim (λ (b : Among (links_within ts d) l). prev_among ts d.start no_rows d.commits i l other (IsNoId-left i d.commits (commits_in ds) n) b e)
    (λ (b : Among (links_in ts ds) l). prev_in ts (suc d.start) ds i l r.3 further (IsNoId-right i d.commits (commits_in ds) n) b e) (Among-append (links_within ts d) (links_in ts ds) l a)

-- where a link can lead from within an epoch
abbrev IsFrom : List Table → Epoch → ℕ → Type 0
IsFrom ts e i = (i ≡ e.start) ⊎ ((x : Link) × Among (links_within ts e) x × (x.id ≡ i))

-- the first epoch and the later ones
module _ (ts : List Table) (floor : ℕ) (d : Epoch) (ds : List Epoch) (r : Rising ts floor (d ∷ ds)) (distinct : AreDistinct (d.commits ++ commits_in ds)) where
  -- no later link leads from where a link of the first can
  later_prev : (i : ℕ) (m : Link) → IsFrom ts d i → Among (links_in ts ds) m → m.prev ≡ i → ⊥
  later_prev i m from b e =
      ⊎_elim (λ (s : i ≡ d.start). prev_in ts (suc d.start) ds d.start m r.3 (inl (omega arith)) (low_is_no_id ts (suc d.start) d.start ds r.3 r.1) b (e ∙ s))
      (λ (t : (x : Link) × Among (links_within ts d) x × (x.id ≡ i)).
      prev_in ts (suc d.start) ds t.0.id m r.3 (inr (high ts d t.0 r.1 r.2 t.1)) (cross ts d.start no_rows d.commits (commits_in ds) t.0 distinct t.1) b (e ∙ sym t.2)) from

  -- no link of the first leads from where a later one can
  earlier_prev : (e : Epoch) (i : ℕ) (l : Link) → IsEpochIn ds e → IsFrom ts e i → Among (links_within ts d) l → l.prev ≡ i → ⊥
  earlier_prev e i l among from a same =
      let g = good ts (suc d.start) ds e r.3 among in
      let above : d.start < e.start = g.above in
      let below : e.start < 2 ^ 64 = g.below in
      let first : d.start < 2 ^ 64 = r.1 in
      ⊎_elim (λ (p : l.prev ≡ d.start).
      ⊎_elim (λ (s : i ≡ e.start). omega (arith, p, s, same, above))
      (λ (t : (x : Link) × Among (links_within ts e) x × (x.id ≡ i)). let up = high ts e t.0 g.below g.history t.1 in let at = t.2 in omega (arith, p, at, same, up, first)) from)
      (λ (y : (m : Link) × Among (links_within ts d) m × (m.id ≡ l.prev)).
      ⊎_elim (λ (s : i ≡ e.start). let up = high ts d y.0 r.1 r.2 y.1 in let at = y.2 in omega (arith, at, s, same, up, below))
      (λ (t : (x : Link) × Among (links_within ts e) x × (x.id ≡ i)).
      id_in ts ds y.0.id t.0 (cross ts d.start no_rows d.commits (commits_in ds) y.0 distinct y.1) (in_all ts ds e t.0 among t.1) (t.2 ∙ sym same ∙ sym y.2)) from) (prev_is ts d.start no_rows d.commits l a)

  later_id : (l m : Link) → Among (links_within ts d) l → Among (links_in ts ds) m → m.id ≡ l.id → ⊥
  later_id l m a b e = id_in ts ds l.id m (cross ts d.start no_rows d.commits (commits_in ds) l distinct a) b e

  from_of : (l : Link) → Among (links_within ts d) l → IsFrom ts d l.prev
  from_of l a = prev_is ts d.start no_rows d.commits l a

-- ---- links of all epochs don't contradict each other

by_prev_in : (ts : List Table) (floor : ℕ) (es : List Epoch) → Rising ts floor es → AreDistinct (commits_in es) → (l m : Link)
    → Among (links_in ts es) l → Among (links_in ts es) m → l.prev ≡ m.prev → l ≡ m
by_prev_in ts floor [] r k l m a b e = absurd a
by_prev_in ts floor (d ∷ ds) r k l m a b e = both (Among-append (links_within ts d) (links_in ts ds) l a) (Among-append (links_within ts d) (links_in ts ds) m b) (by_prev_in ts (suc d.start) ds r.3 (AreDistinct-right d.commits (commits_in ds) k) l m)
  where
    both : Among (links_within ts d) l ⊎ Among (links_in ts ds) l → Among (links_within ts d) m ⊎ Among (links_in ts ds) m
        → (Among (links_in ts ds) l → Among (links_in ts ds) m → l.prev ≡ m.prev → l ≡ m) → l ≡ m
    both (inl x) (inl y) rest = by_prev_from ts d.start no_rows d.commits (start_is_no_id d.start r.1 d.commits r.2.no_start) (AreDistinct-left d.commits (commits_in ds) k) l m x y e
    both (inl x) (inr y) rest = absurd (later_prev ts floor d ds r k l.prev m (from_of ts floor d ds r k l x) y (sym e))
    both (inr x) (inl y) rest = absurd (later_prev ts floor d ds r k m.prev l (from_of ts floor d ds r k m y) x e)
    both (inr x) (inr y) rest = rest x y e

by_id_in : (ts : List Table) (floor : ℕ) (es : List Epoch) → Rising ts floor es → AreDistinct (commits_in es) → (l m : Link)
    → Among (links_in ts es) l → Among (links_in ts es) m → l.id ≡ m.id → l ≡ m
by_id_in ts floor [] r k l m a b e = absurd a
by_id_in ts floor (d ∷ ds) r k l m a b e = both (Among-append (links_within ts d) (links_in ts ds) l a) (Among-append (links_within ts d) (links_in ts ds) m b) (by_id_in ts (suc d.start) ds r.3 (AreDistinct-right d.commits (commits_in ds) k) l m)
  where
    both : Among (links_within ts d) l ⊎ Among (links_in ts ds) l → Among (links_within ts d) m ⊎ Among (links_in ts ds) m
        → (Among (links_in ts ds) l → Among (links_in ts ds) m → l.id ≡ m.id → l ≡ m) → l ≡ m
    both (inl x) (inl y) rest = by_id_from ts d.start no_rows d.commits (AreDistinct-left d.commits (commits_in ds) k) l m x y e
    both (inl x) (inr y) rest = absurd (later_id ts floor d ds r k l m x y (sym e))
    both (inr x) (inl y) rest = absurd (later_id ts floor d ds r k m l y x e)
    both (inr x) (inr y) rest = rest x y e

pub epochs_consistent : (ts : List Table) (floor : ℕ) (es : List Epoch) → Rising ts floor es → AreDistinct (commits_in es) → IsConsistent (Among (links_in ts es))
epochs_consistent ts floor es r k = record { by_prev = by_prev_in ts floor es r k; by_id = by_id_in ts floor es r k }

-- ---- a chain stays in its epoch

pub stays : (ts : List Table) (floor : ℕ) (es : List Epoch) → Rising ts floor es → AreDistinct (commits_in es) → (e : Epoch) → IsEpochIn es e → (i : ℕ) (l : Link)
    → Among (links_in ts es) l → IsFrom ts e i → l.prev ≡ i → Among (links_within ts e) l
stays ts floor [] r k e among i l a from same = absurd among
stays ts floor (d ∷ ds) r k e (inl s) i l a from same =
    let at : IsFrom ts d i = subst (λ (x : Epoch). IsFrom ts x i) s from in
    subst (λ (x : Epoch). Among (links_within ts x) l) (sym s)
    (⊎_elim (λ (b : Among (links_within ts d) l). b) (λ (b : Among (links_in ts ds) l). absurd (later_prev ts floor d ds r k i l at b same)) (Among-append (links_within ts d) (links_in ts ds) l a))
stays ts floor (d ∷ ds) r k e (inr among) i l a from same =
    ⊎_elim (λ (b : Among (links_within ts d) l). absurd (earlier_prev ts floor d ds r k e i l among from b same))
    (λ (b : Among (links_in ts ds) l). stays ts (suc d.start) ds r.3 (AreDistinct-right d.commits (commits_in ds) k) e among i l b from same) (Among-append (links_within ts d) (links_in ts ds) l a)

-- a link from a start is the first of the epoch from there
pub first_within : (ts : List Table) (e : Epoch) (l : Link) → IsStart e.start → IsHistory ts no_rows e.commits → Among (links_within ts e) l → IsStart l.prev → l.prev ≡ e.start
first_within ts e l below h a start =
    ⊎_elim (λ (p : l.prev ≡ e.start). p)
    (λ (t : (m : Link) × Among (links_within ts e) m × (m.id ≡ l.prev)). let up = high ts e t.0 below h t.1 in let at = t.2 in absurd (omega (arith, up, at, start))) (prev_is ts e.start no_rows e.commits l a)

pub first_in : (ts : List Table) (floor : ℕ) (es : List Epoch) → Rising ts floor es → (l : Link) → Among (links_in ts es) l → IsStart l.prev
    → (e : Epoch) × IsEpochIn es e × Among (links_within ts e) l × (l.prev ≡ e.start)
first_in ts floor [] r l a start = absurd a
first_in ts floor (d ∷ ds) r l a start =
    ⊎_elim (λ (b : Among (links_within ts d) l). (d, inl refl, b, first_within ts d l r.1 r.2 b start))
    (λ (b : Among (links_in ts ds) l). let t = first_in ts (suc d.start) ds r.3 l b start in (t.0, inr t.1, t.2, t.3)) (Among-append (links_within ts d) (links_in ts ds) l a)

-- a link from the start of an epoch is its first
is_first : (ts : List Table) (start : ℕ) (rows : Rows) (ks : List Commit) (S : Link → Type 0) (l : Link) → IsNoId start ks → Among (links_of ts start rows ks) l
    → l.prev ≡ start → S l → HoldsFirst S (links_of ts start rows ks)
is_first ts start rows [] S l n a e s = absurd a
is_first ts start rows (k ∷ ks) S l n (inl same) e s = subst S same s
is_first ts start rows (k ∷ ks) S l n (inr a) e s = absurd (prev_among ts k.id k.rows ks start l n.0 n.1 a e)

-- the first link of an epoch opens a chain
first_opens : (ts : List Table) (start : ℕ) (ks : List Commit) (S : Link → Type 0) → IsStart start → IsHistory ts no_rows ks → HoldsFirst S (links_of ts start no_rows ks)
    → (l : Link) × Opens S l × (l.prev ≡ start)
first_opens ts start [] S below h first = absurd first
first_opens ts start (k ∷ ks) S below h first =
    let commit = h.commits.0 in
    let l : Link = record { prev = start; id = k.id; change = database_difference ts no_rows k.rows } in
    (l, record { member = first; from_start = below; fits_none = difference_fits ts no_rows k.rows commit.before commit.after }, refl)

module _ (ts : List Table) (es : List Epoch) (S : Link → Type 0) (r : Rising ts 0 es) (distinct : AreDistinct (commits_in es)) (w : (l : Link) → S l → Among (links_in ts es) l) where
  within : (e : Epoch) → IsEpochIn es e → (i : ℕ) (rows : Rows) (ms : List Link) → IsFrom ts e i → AllOf S ms → JoinUp ts i rows ms → AllOf (Among (links_within ts e)) ms
  within e among i rows [] from a j = tt
  within e among i rows (m ∷ ms) from a j =
      let here = stays ts 0 es r distinct e among i m (w m a.0) from j.0 in
      (here, within e among m.id _ ms (inr (m, here, refl)) a.1 j.2)

  latest_epoch : (start : ℕ) (e : Epoch) → IsOpening S start → IsEpochIn es e → start ≡ e.start → (e.start ≡ 0) ⊎ HoldsFirst S (links_within ts e) → IsLatestEpoch ts S es e
  latest_epoch start e opening among same first =
      record {
        among = among;
        first = first;
        latest = λ d a held.
            let g = good ts 0 es d r a in
            let t = first_opens ts d.start d.commits S g.below g.history held in
            let most = opening.greatest t.0 t.1 in
            let at = t.2 in
            omega (arith, most, at, same);
      }

  chain_at : (start : ℕ) (e : Epoch) (ls : List Link) → IsOpening S start → IsEpochIn es e → start ≡ e.start → (e.start ≡ 0) ⊎ HoldsFirst S (links_within ts e)
      → IsLongestChain ts e.start no_rows S ls → IsEpochChain ts S es ls
  chain_at start e ls opening among same first long =
      let g = good ts 0 es e r among in
      let all = links_within ts e in
      let T : Link → Type 0 = λ l. S l × Among all l in
      let k : IsSource ts e.start no_rows e.commits = record { below = g.below; history = g.history } in
      let inside = within e among e.start no_rows ls (inl refl) long.chain.members long.chain.joined in
      let here : IsLongestChain ts e.start no_rows T ls = record {
        chain = record { members = AllOf-both S (Among all) ls long.chain.members inside; joined = long.chain.joined };
        longest = λ ms c. long.longest ms (record { members = AllOf-weaker T S (λ l a. a.0) ms c.members; joined = c.joined });
      } in
      let count = source_count T ts e.start no_rows ls e.commits here k (λ l a. a.1) in
      let prefix = sym (history_prefix ts e.start no_rows e.commits ls k inside long.chain.joined) in
      record {
        epoch = e;
        latest = latest_epoch start e opening among same first;
        count = record {
          within = count.within;
          held = AllOf-weaker T S (λ l a. a.0) (take (length ls) all) count.held;
          greatest = λ m n b. count.greatest m n (AllOf-both S (Among all) (take m all) b (AllOf-take (Among all) m all (all_among all)));
        };
        same = prefix;
        rows = ap (λ (x : List Link). rows_after ts no_rows x) prefix ∙ history_rows ts e.start no_rows e.commits (length ls) g.history.commits;
      }

  opened_at : (start : ℕ) (ls : List Link) (l : Link) → IsOpening S start → Opens S l → l.prev ≡ start → IsLongestChain ts start no_rows S ls → IsEpochChain ts S es ls
  opened_at start ls l opening opens at long =
      let t = first_in ts 0 es r l (w l opens.member) opens.from_start in
      let e = t.0 in
      let g = good ts 0 es e r t.1 in
      let same : start ≡ e.start = sym at ∙ t.3 in
      chain_at start e ls opening t.1 same (inr (is_first ts e.start no_rows e.commits S l (start_is_no_id e.start g.below e.commits g.history.no_start) t.2 t.3 opens.member))
      (subst (λ (i : ℕ). IsLongestChain ts i no_rows S ls) same long)

-- the chain of a set of links of one history is that of the latest epoch
pub epoch_chain : (ts : List Table) (h : EpochHistory) (S : Link → Type 0) (ls : List Link) → IsEpochHistory ts h → ((l : Link) → S l → Among (links_in ts (epochs_of h)) l)
    → IsLatestChain ts S ls → IsEpochChain ts S (epochs_of h) ls
epoch_chain ts h S ls k w c =
    let es = epochs_of h in
    let r = rising_of ts h k in
    let first : Epoch = record { start = 0; commits = h.first } in
    ⊎_elim (λ (z : c.start ≡ 0). chain_at ts es S r k.distinct w c.start first ls c.opening (inl refl) z (inl refl) (subst (λ (i : ℕ). IsLongestChain ts i no_rows S ls) z c.longest))
    (λ (t : (l : Link) × Opens S l × (l.prev ≡ c.start)). opened_at ts es S r k.distinct w c.start ls t.0 c.opening t.1 t.2 c.longest) c.opening.found

-- links of one history don't contradict each other
pub no_fork : (S T : Link → Type 0) (ts : List Table) (l h : Link) → AreOfOneSource ts S T → T l → S h → Contradict h l → ⊥
no_fork S T ts l h k b a c =
    let all = epochs_consistent ts 0 (epochs_of k.0) (rising_of ts k.0 k.1) k.1.distinct in
    ⊎_elim (λ (e : h.prev ≡ l.prev). c.0 (all.by_prev h l (k.2 h a) (k.3 l b) e)) (λ (e : h.id ≡ l.id). c.0 (all.by_id h l (k.2 h a) (k.3 l b) e)) c.1

-- ---- a history of one epoch

pub append_none : (ks : List Commit) → ks ++ [] ≡ ks
append_none [] = refl
append_none (k ∷ ks) = ap (λ (x : List Commit). k ∷ x) (append_none ks)

abbrev pub one_epoch : List Commit → EpochHistory
one_epoch ks = record { first = ks; later = [] }

pub one_epoch_is : (ts : List Table) (ks : List Commit) → IsHistory ts no_rows ks → IsEpochHistory ts (one_epoch ks)
one_epoch_is ts ks h = record { first = h; later = tt; distinct = subst AreDistinct (sym (append_none ks)) h.distinct }

pub in_one_epoch : (ts : List Table) (ks : List Commit) (l : Link) → Among (links_of ts 0 no_rows ks) l → Among (links_in ts (epochs_of (one_epoch ks))) l
in_one_epoch ts ks l a = Among-left (links_of ts 0 no_rows ks) [] l a

-- the chain of a set of its links begins at 0
pub one_opening : (ts : List Table) (ks : List Commit) (S : Link → Type 0) → IsHistory ts no_rows ks → ((l : Link) → S l → Among (links_of ts 0 no_rows ks) l) → IsOpening S 0
one_opening ts ks S h w =
    let e : Epoch = record { start = 0; commits = ks } in
    record {
      found = inl refl;
      greatest = λ l o. (let at = first_within ts e l (omega arith) h (w l o.member) o.from_start in omega (arith, at));
    }

pub one_start : (ts : List Table) (rows : Rows) (ks : List Commit) → start_of (links_of ts 0 rows ks) ≡ 0
one_start ts rows [] = refl
one_start ts rows (k ∷ ks) = refl

-- what is so of an epoch of a history
pub epoch_good : (ts : List Table) (h : EpochHistory) (e : Epoch) → IsEpochHistory ts h → IsEpochIn (epochs_of h) e → IsGoodEpoch ts 0 e
epoch_good ts h e k among = good ts 0 (epochs_of h) e (rising_of ts h k) among

-- ---- a new epoch

no_id_push : (i : ℕ) (ks : List Commit) (k : Commit) → IsNoId i ks → (k.id ≡ i → ⊥) → IsNoId i (ks ++ k ∷ [])
no_id_push i [] k n d = (d, tt)
no_id_push i (j ∷ ks) k n d = (n.0, no_id_push i ks k n.1 d)

pub distinct_push : (ks : List Commit) (k : Commit) → AreDistinct ks → IsNoId k.id ks → AreDistinct (ks ++ k ∷ [])
distinct_push [] k d n = (tt, tt)
distinct_push (j ∷ ks) k d n = (no_id_push j.id ks k d.0 (λ e. n.0 (sym e)), distinct_push ks k d.1 n.1)

pub append_assoc_commits : (xs ys zs : List Commit) → (xs ++ ys) ++ zs ≡ xs ++ (ys ++ zs)
append_assoc_commits [] ys zs = refl
append_assoc_commits (x ∷ xs) ys zs = ap (λ (ks : List Commit). x ∷ ks) (append_assoc_commits xs ys zs)

commits_push : (es : List Epoch) (e : Epoch) → commits_in (es ++ e ∷ []) ≡ commits_in es ++ e.commits
commits_push [] e = append_none e.commits
commits_push (d ∷ ds) e = ap (λ (ks : List Commit). d.commits ++ ks) (commits_push ds e) ∙ sym (append_assoc_commits d.commits (commits_in ds) e.commits)

epochs_push : (ts : List Table) (start : ℕ) (rows : Rows) (es : List Epoch) (e : Epoch) → EpochsFrom ts start rows es → start_now start es < e.start → IsStart e.start
    → IsHistory ts no_rows e.commits → CarriesOn (rows_now rows es) e.commits → EpochsFrom ts start rows (es ++ e ∷ [])
epochs_push ts start rows [] e r above below h same = (above, below, h, same, tt)
epochs_push ts start rows (d ∷ ds) e r above below h same = (r.0, r.1, r.2, r.3, epochs_push ts d.start (last_rows d.commits) ds e r.4 above below h same)

pub history_begun : (ts : List Table) (h : EpochHistory) (start : ℕ) (k : Commit) → IsEpochHistory ts h → IsNextEpoch ts h start k → IsEpochHistory ts (begun_epoch h start k)
history_begun ts h start k is next =
    let one : IsHistory ts no_rows (k ∷ []) = record { distinct = (tt, tt); no_start = (next.past, tt); commits = (next.commit, tt) } in
    let e : Epoch = record { start = start; commits = k ∷ [] } in
    record {
      first = is.first;
      later = epochs_push ts 0 (last_rows h.first) h.later e is.later next.above next.below one next.same;
      distinct = subst AreDistinct (sym (commits_push (epochs_of h) e)) (distinct_push (commits_in (epochs_of h)) k is.distinct next.new);
    }
