-- A world, and what becomes of it where an event happens.
use Rattle.std.specs.Prelude.{◌≡◌, ◌≢◌, ◌≤◌, ◌<◌, ◌-◌, ◌==◌, ◌||◌, if◌then◌else◌, Bool, true, ℕ, zero, suc, List, [], ◌∷◌, ◌++◌, Option, Some, None, Result, Ok, length, map, replicate, slice_get, slice_set}
use Rattle.std.specs.List.{AllByRecursion, list_all}
use Rattle.std.specs.FinMap.{empty}
use Rattle.ovs_types.specs.Schema.{SchemaValue}
use Rattle.serde_json.specs.Data.{Data, array}
use Rattle.serde_json.specs.View.{items_of}
use Rattle.ovs_query.specs.Answer.{only_reads, AreResults}
use Rattle.ovs_links.specs.Settling.{after_settle}
use Rattle.ovs_links.specs.Store.{Stored, tables_of, head_of, rows_of}
use Rattle.ovs_links.specs.declared.link.Link.{Link}
use Rattle.ovs_source.specs.Transacting.{Asked, TransactsTo}
use Rattle.ovs_source.specs.Trimming.{TrimsTo}
use Rattle.ovs_source.specs.declared.error.SourceError.{SourceError}
use Rattle.ovs_source.specs.declared.trim_error.TrimError.{TrimError}
use Rattle.ovs_source.specs.declared.transacting.Outcome.{Outcome}
use Rattle.ovs_world.specs.Deliveries.{scene, Delivers, IsBetween, IsQuiet}
use Rattle.ovs_world.specs.Nodes.{IsTier, IsSettled, MergesNodes, DropsOld, node_at, folded_in, no_counts}
use Rattle.ovs_world.specs.Sessions.{Opens, IsGone}
use Rattle.ovs_world.specs.declared.holding.Taken.{Taken}
use Rattle.ovs_world.specs.declared.sim_session.SimSession.{SimSession}

-- the source, the next row id, the relays, and the sessions that were opened, of which some were cut
pub record WorldValue : Type 0 where
  pub source : Stored
  pub fresh : ℕ
  pub relays : List Stored
  pub sessions : List (Option SimSession)

abbrev pub empty_store : SchemaValue → Stored
empty_store schema = record { schema = schema; links = empty; folded = [] }

abbrev pub new_world : SchemaValue → ℕ → WorldValue
new_world schema relays = record { source = empty_store schema; fresh = 1; relays = replicate relays (empty_store schema); sessions = [] }

-- ---- what is so of every world

abbrev pub IsOpen : Stored → List Stored → Option SimSession → Type 0
IsOpen source relays None = Unit {0}
IsOpen source relays (Some s) = IsBetween source relays s × IsQuiet s

pub record IsWorld (w : WorldValue) : Type 0 where
  pub tier : IsTier w.source w.relays
  pub sessions : AllByRecursion (IsOpen w.source w.relays) w.sessions

-- ---- nodes and sessions by their numbers

-- how many relays a world may have
abbrev pub IsCount : ℕ → Type 0
IsCount n = (0 < n) × (n ≤ 9)

abbrev pub HasNode : WorldValue → ℕ → Type 0
HasNode w n = n ≤ length w.relays

abbrev pub HasRelay : WorldValue → ℕ → Type 0
HasRelay w n = (0 < n) × (n ≤ length w.relays)

-- a relay and another node
abbrev pub AreTwo : WorldValue → ℕ → ℕ → Type 0
AreTwo w relay other = HasRelay w relay × HasNode w other × (relay ≢ other)

abbrev pub node_of : WorldValue → ℕ → Stored
node_of w n = node_at w.source w.relays n

-- each node has folded the longest chain of its links
abbrev pub AreSettled : WorldValue → Type 0
AreSettled w = (n : ℕ) → IsSettled (node_of w n)

-- sessions are counted from 1
abbrev pub StandsAt : List (Option SimSession) → ℕ → SimSession → Type 0
StandsAt sessions zero s = ⊥
StandsAt sessions (suc n) s = slice_get sessions n ≡ Some (Some s)

-- there is a session, and it isn't gone
abbrev pub GoesOn : Stored → List Stored → Option SimSession → Type 0
GoesOn source relays None = ⊥
GoesOn source relays (Some s) = ¬ (IsGone (folded_in (node_at source relays s.upstream)) s)

-- a session of this number was opened, and was neither cut nor is it gone
abbrev pub IsOpenIn : Stored → List Stored → List (Option SimSession) → ℕ → SimSession → Type 0
IsOpenIn source relays sessions n s = StandsAt sessions n s × GoesOn source relays (Some s)

abbrev pub IsOpenAt : WorldValue → ℕ → SimSession → Type 0
IsOpenAt w n s = IsOpenIn w.source w.relays w.sessions n s

-- there was no session of this number, or it was cut, or it is gone
abbrev pub NoneIsOpenAt : WorldValue → ℕ → Type 0
NoneIsOpenAt w n = (s : SimSession) → ¬ (IsOpenAt w n s)

-- ---- what an event changes

abbrev pub with_sessions : WorldValue → List (Option SimSession) → WorldValue
with_sessions w sessions = record { source = w.source; fresh = w.fresh; relays = w.relays; sessions = sessions }

abbrev pub with_relays : WorldValue → List Stored → List (Option SimSession) → WorldValue
with_relays w relays sessions = record { source = w.source; fresh = w.fresh; relays = relays; sessions = sessions }

-- session 0 asks, which owns no lock
abbrev pub asked_by : ℕ → List Data → Asked
asked_by id operations = record { session = 0; operations = operations; id = id; locks = [] }

-- the source answers a transaction
pub record Commits (w : WorldValue) (id : ℕ) (operations : List Data) (answer : Result Outcome SourceError) (v : WorldValue) : Type 0 where
  pub transacts : TransactsTo w.source w.fresh (asked_by id operations) answer v.source v.fresh
  pub relays : v.relays ≡ w.relays
  pub sessions : v.sessions ≡ w.sessions

-- it answers these results
abbrev pub CommitsTo : WorldValue → ℕ → List Data → Data → WorldValue → Type 0
CommitsTo w id operations results v = (made : Option Link) × Commits w id operations (Ok (record { results = results; link = made })) v

-- the source answers a trim
pub record Trims (w : WorldValue) (id : ℕ) (answer : Result Link TrimError) (v : WorldValue) : Type 0 where
  pub trims : TrimsTo w.source id answer v.source
  pub fresh : v.fresh ≡ w.fresh
  pub relays : v.relays ≡ w.relays
  pub sessions : v.sessions ≡ w.sessions

-- it begins a new epoch
abbrev pub Renews : WorldValue → ℕ → WorldValue → Type 0
Renews w id v = (link : Link) × Trims w id (Ok link) v

-- a relay asks another node for what comes after its last id
pub record Connects (w : WorldValue) (relay upstream number : ℕ) (v : WorldValue) : Type 0 where
  pub nodes : AreTwo w relay upstream
  pub session : SimSession
  pub opens : Opens (folded_in (node_of w upstream)) relay upstream (head_of (node_of w relay)) session
  pub after : v ≡ with_sessions w (w.sessions ++ Some session ∷ [])
  pub number_is : number ≡ length v.sessions

-- so many bytes reach the relay
pub record Brings (w : WorldValue) (number bytes : ℕ) (counts : Taken) (v : WorldValue) : Type 0 where
  pub before : SimSession
  pub is_open : IsOpenAt w number before
  pub relays : List Stored
  pub after : SimSession
  pub delivers : Delivers w.source bytes (scene w.relays before no_counts) (scene relays after counts)
  pub world : v ≡ with_relays w relays (slice_set w.sessions (number - 1) (Some after))

-- the session is cut
pub record Cuts (w : WorldValue) (number : ℕ) (v : WorldValue) : Type 0 where
  pub before : SimSession
  pub is_open : IsOpenAt w number before
  pub world : v ≡ with_sessions w (slice_set w.sessions (number - 1) None)

-- the session, unless the relay is one of its ends
abbrev pub cut_of : ℕ → Option SimSession → Option SimSession
cut_of relay None = None
cut_of relay (Some s) = if s.relay == relay || s.upstream == relay then None else Some s

-- a relay begins anew with no link, and the sessions of which it is an end are cut
pub record Restarts (w : WorldValue) (relay : ℕ) (v : WorldValue) : Type 0 where
  pub node : HasRelay w relay
  pub world : v ≡ with_relays w (slice_set w.relays (relay - 1) (empty_store w.source.schema)) (map (cut_of relay) w.sessions)

-- a relay gets the links of another node, and settles
pub record Merges (w : WorldValue) (into from : ℕ) (v : WorldValue) : Type 0 where
  pub nodes : AreTwo w into from
  pub merges : MergesNodes w.source w.relays into from v.relays
  pub world : v ≡ with_relays w v.relays w.sessions

-- a relay settles, and drops n links: its chain stays, and so does each session
pub record Prunes (w : WorldValue) (relay n : ℕ) (v : WorldValue) : Type 0 where
  pub node : HasRelay w relay
  pub store : Stored
  pub drops : DropsOld (after_settle (node_of w relay)) n store
  pub world : v ≡ with_relays w (slice_set w.relays (relay - 1) store) w.sessions

-- the operations only read
abbrev pub only_read : List Data → Bool
only_read operations = list_all only_reads operations

-- a node answers operations that only read, each from its database
pub record Reads (w : WorldValue) (node : ℕ) (operations : List Data) (results : Data) : Type 0 where
  pub node_is : HasNode w node
  pub reads : only_read operations ≡ true
  pub answers : List Data
  pub all : results ≡ array (items_of answers)
  pub each : AreResults (tables_of (node_of w node)) (rows_of (node_of w node)) operations answers
