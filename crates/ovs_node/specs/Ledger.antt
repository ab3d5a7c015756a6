-- What became of the links that came.
use Rattle.std.specs.Prelude.{◌≡◌, ◌≢◌, ◌++◌, ◌≤◌, ◌<◌, ◌+◌, ◌-◌, ◌^◌, ℕ, zero, suc, Bool, true, false, List, [], ◌∷◌, Option, Some, None, length, map, min, slice_index_or, refl}
use Rattle.std.specs.Ordering.{nat_cmp}
use Rattle.std.specs.FinMap.{FinMap, empty, len}
use Rattle.std.specs.Coded.{Coded, code_by, coded×, coded_bool, coded_ℕ, coded_list, coded_option}
use Rattle.ovs_types.specs.Schema.{SchemaValue}
use Rattle.ovs_sync.specs.declared.feed.item.Item.{Item}
use Rattle.ovs_sync.specs.Feed.{FeedValue, feed_code}
use Rattle.ovs_links.specs.Pruning.{IsOld}
use Rattle.ovs_links.specs.Sets.{Among, Holds, Contradict}
use Rattle.ovs_links.specs.Store.{Stored, max_links, start_in}
use Rattle.ovs_links.specs.Steps.{folded_of}
use Rattle.ovs_links.specs.declared.link.Link.{Link}
use Rattle.ovs_links.specs.declared.step.Step.{Step}
use Rattle.ovs_node.specs.declared.refused.RefusedLink.{RefusedLink}
use Rattle.ovs_node.specs.declared.refused.RefusedBecause.{RefusedBecause}
use Rattle.ovs_node.specs.declared.refused.RefusedBecause.TheVariants as why

-- the steps of a store's folded links
abbrev pub steps_in : Stored → List Step
steps_in s = (folded_of s.schema s.folded).steps

-- a store of this schema that holds no link
abbrev pub IsFresh : SchemaValue → Stored → Type 0
IsFresh schema s = s ≡ record { schema = schema; links = empty; folded = [] }

abbrev pub kept_as : Option Link → List Link
kept_as None = []
kept_as (Some l) = l ∷ []

-- ---- what becomes of a link

-- it was new and was taken; it had been taken before; it contradicts this one, which had been taken; there was no room for it
pub data Fate : Type 0 where
  Taken : Fate
  Repeated : Fate
  Against : Link → Fate
  NoRoom : Fate

-- those of these links that were taken, in order
abbrev pub taken_of : List Link → List Fate → List Link
taken_of [] fs = []
taken_of (l ∷ ls) [] = []
taken_of (l ∷ ls) (Taken ∷ fs) = l ∷ taken_of ls fs
taken_of (l ∷ ls) (Repeated ∷ fs) = taken_of ls fs
taken_of (l ∷ ls) (Against held ∷ fs) = taken_of ls fs
taken_of (l ∷ ls) (NoRoom ∷ fs) = taken_of ls fs

-- beside all that were taken
abbrev pub IsFate : List Link → Link → Fate → Type 0
IsFate all l Taken = Among all l
IsFate all l Repeated = Among all l
IsFate all l (Against held) = Among all held × Contradict held l
IsFate all l NoRoom = max_links ≤ length all

-- one for each of these links, in order
abbrev pub AreFates : List Link → List Link → List Fate → Type 0
AreFates all [] [] = Unit {0}
AreFates all [] (f ∷ fs) = ⊥
AreFates all (l ∷ ls) [] = ⊥
AreFates all (l ∷ ls) (f ∷ fs) = IsFate all l f × AreFates all ls fs

-- ---- those that are refused

-- as a refused link is told
abbrev pub told_as : Link → Fate → List RefusedLink
told_as l Taken = []
told_as l Repeated = []
told_as l (Against held) = record { prev = l.prev; id = l.id; why = why.Fork held.prev held.id } ∷ []
told_as l NoRoom = record { prev = l.prev; id = l.id; why = why.Full } ∷ []

-- the refused of these links, in order
abbrev pub all_told_as : List Link → List Fate → List RefusedLink
all_told_as [] fs = []
all_told_as (l ∷ ls) [] = []
all_told_as (l ∷ ls) (f ∷ fs) = told_as l f ++ all_told_as ls fs

abbrev pub fork_as : RefusedBecause → ℕ
fork_as (why.Fork prev id) = 1
fork_as why.Full = 0

abbrev pub short_as : RefusedBecause → ℕ
short_as (why.Fork prev id) = 0
short_as why.Full = 1

-- how many of them contradict a held link
abbrev pub forks_in : List RefusedLink → ℕ
forks_in [] = 0
forks_in (r ∷ rs) = fork_as r.why + forks_in rs

-- how many of them found no room
abbrev pub shorts_in : List RefusedLink → ℕ
shorts_in [] = 0
shorts_in (r ∷ rs) = short_as r.why + shorts_in rs

-- a counter that stays at its last value
abbrev pub counted : ℕ → ℕ
counted n = min n (2 ^ 64 - 1)

-- ---- the intake

-- a store, what came of the feed, the link that is kept, how many links were refused and how many dropped, whether old ones
-- are dropped, and the refused ones that weren't told yet
pub record IntakeValue : Type 0 where
  pub store : Stored
  pub feed : FeedValue Link
  pub kept : Option Link
  pub forks : ℕ
  pub short : ℕ
  pub dropped : ℕ
  pub prunes : Bool
  pub untold : List RefusedLink

abbrev pub intake_code : Coded Stored → Coded Link → Coded RefusedLink → Coded IntakeValue
intake_code s l r =
    code_by (Stored × (FeedValue Link × (Option Link × (ℕ × (ℕ × (ℕ × (Bool × List RefusedLink)))))))
    (coded× s (coded× (feed_code l) (coded× (coded_option l) (coded× coded_ℕ (coded× coded_ℕ (coded× coded_ℕ (coded× coded_bool (coded_list r))))))))
    (λ i. (i.store, (i.feed, (i.kept, (i.forks, (i.short, (i.dropped, (i.prunes, i.untold))))))))
    (λ p. record { store = p.0; feed = p.1.0; kept = p.1.1.0; forks = p.1.1.1.0; short = p.1.1.1.1.0; dropped = p.1.1.1.1.1.0; prunes = p.1.1.1.1.1.1.0; untold = p.1.1.1.1.1.1.1 }) (λ _. refl)

-- something was dropped, and this link can be reached from a lower start than the chain's through links of this list
abbrev pub IsGone : List Link → IntakeValue → Link → Type 0
IsGone done i l = (i.dropped ≢ 0) × IsOld (Among done) (start_in i.store) l

-- each link that came has its fate, or is kept; what is held was taken, and what was taken is held, but for what is gone;
-- those that were taken are as many as are held and dropped; and each refused one is told, or to be told, and counted
pub record IsAccountOf (i : IntakeValue) : Type 0 where
  pub done : List Link
  pub split : map (λ (m : Item Link). m.value) i.feed.taken ≡ done ++ kept_as i.kept
  pub fates : List Fate
  pub are : AreFates (taken_of done fates) done fates
  pub held : (l : Link) → Holds i.store.links l → Among (taken_of done fates) l
  pub stays : (l : Link) → Among (taken_of done fates) l → ¬ (IsGone done i l) → Holds i.store.links l
  pub gone : ℕ
  pub all : length (taken_of done fates) ≡ len i.store.links + gone
  pub dropped : i.dropped ≡ counted gone
  pub told : List RefusedLink
  pub all_told : all_told_as done fates ≡ told ++ i.untold
  pub forks : i.forks ≡ counted (forks_in (told ++ i.untold))
  pub short : i.short ≡ counted (shorts_in (told ++ i.untold))

-- one link is taken of a feed, behind all that were taken before
pub record TakesOne (old new : FeedValue Link) : Type 0 where
  pub item : Item Link
  pub taken : new ≡ record { taken = old.taken ++ item ∷ []; ends = old.ends; returned = old.returned }

-- the links that were refused meanwhile are counted, and are to be told behind those before
pub record TellsMore (old new : IntakeValue) : Type 0 where
  pub more : List RefusedLink
  pub untold : new.untold ≡ old.untold ++ more
  pub forks : new.forks ≡ counted (old.forks + forks_in more)
  pub short : new.short ≡ counted (old.short + shorts_in more)

-- where old links are dropped, no held link can be reached from a lower start than the chain's
abbrev pub NoneOld : IntakeValue → Type 0
NoneOld i = i.prunes ≡ true → (l : Link) → Holds i.store.links l → ¬ (IsOld (Holds i.store.links) (start_in i.store) l)

-- whether old links are dropped stays as it was, and where they aren't nothing is dropped
pub record KeepsPruning (old new : IntakeValue) : Type 0 where
  pub same : new.prunes ≡ old.prunes
  pub off : old.prunes ≡ false → new.dropped ≡ old.dropped

-- one of these ends sent the link
abbrev pub WasSent : List (List Link) → Link → Type 0
WasSent sent l = (k : ℕ) × (k < length sent) × Among (slice_index_or sent k []) l

-- 1 to 4 upstreams, and 1 to 12 views
abbrev pub AreCounts : ℕ → ℕ → Type 0
AreCounts upstreams views = (1 ≤ upstreams) × (upstreams ≤ 4) × (1 ≤ views) × (views ≤ 12)

-- so many ends, each with its number, that have sent nothing
abbrev pub fresh_ends : ℕ → List (ℕ × List Link)
fresh_ends zero = []
fresh_ends (suc n) = fresh_ends n ++ (n, []) ∷ []
