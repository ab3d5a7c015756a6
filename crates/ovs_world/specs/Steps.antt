-- What an event makes of a world, and what is replied: one case an event.
use Rattle.std.specs.Prelude.{◌≡◌, ◌-◌, ◌⊎◌, ◌++◌, ℕ, List, [], ◌∷◌, true, false, None, Result, Ok, Err, slice_set}
use Rattle.serde_json.specs.Data.{Data}
use Rattle.ovs_types.specs.Schema.{SchemaValue}
use Rattle.ovs_links.specs.Settling.{KeepsLinks}
use Rattle.ovs_links.specs.Store.{Stored}
use Rattle.ovs_source.specs.declared.error.SourceError.{SourceError}
use Rattle.ovs_source.specs.declared.trim_error.TrimError.{TrimError}
use Rattle.ovs_upstream.specs.Requests.{schema_request}
use Rattle.ovs_world.specs.Carrying.{IsLarge}
use Rattle.ovs_world.specs.Deliveries.{scene, BreaksOff}
use Rattle.ovs_world.specs.Nodes.{Grow, LeavesMergeOfNodes, no_counts}
use Rattle.ovs_world.specs.Refusals.{refusal_of_source, refusal_of_trim}
use Rattle.ovs_world.specs.Worlds.{WorldValue, HasNode, HasRelay, IsCount, AreTwo, IsOpenAt, NoneIsOpenAt, new_world, node_of, with_relays, only_read, Commits, CommitsTo, Trims, Renews, Connects, Brings, Cuts, Restarts, Merges, Prunes, Reads}
use Rattle.ovs_world.specs.declared.error.WorldError.{WorldError}
use Rattle.ovs_world.specs.declared.error.WorldError.TheVariants.{BadCount, NoSuchNode, NoSession, NotReadOnly, TooLarge, NoMemory}
use Rattle.ovs_world.specs.declared.event.Event.{Event}
use Rattle.ovs_world.specs.declared.event.Event.TheVariants.{Commit, Trim, Connect, Deliver, Cut, Restart, MergeFrom, Prune, Read}
use Rattle.ovs_world.specs.declared.event.Reply.{Reply}
use Rattle.ovs_world.specs.declared.event.Reply.TheVariants.{Results, Session, Took, Dropped, Done}
use Rattle.ovs_world.specs.declared.sim_session.SimSession as sessions

-- ---- why an event is refused, and what is left

-- as the source's transaction is
abbrev pub RefusesCommit : WorldValue → ℕ → List Data → WorldError → WorldValue → Type 0
RefusesCommit w id operations e v = (fault : SourceError) × (e ≡ refusal_of_source fault) × Commits w id operations (Err fault) v

-- as the source's trim is
abbrev pub RefusesTrim : WorldValue → ℕ → WorldError → WorldValue → Type 0
RefusesTrim w id e v = (fault : TrimError) × (e ≡ refusal_of_trim fault) × Trims w id (Err fault) v

abbrev pub RefusesConnect : WorldValue → ℕ → ℕ → WorldError → Type 0
RefusesConnect w relay upstream NoSuchNode = ¬ (AreTwo w relay upstream)
RefusesConnect w relay upstream TooLarge = AreTwo w relay upstream × IsLarge (schema_request w.source.schema)
RefusesConnect w relay upstream NoMemory = AreTwo w relay upstream
RefusesConnect w relay upstream e = ⊥

-- the delivery breaks off, and the session is cut
pub record StopsDelivery (w : WorldValue) (number bytes : ℕ) (e : WorldError) (v : WorldValue) : Type 0 where
  pub before : sessions.SimSession
  pub is_open : IsOpenAt w number before
  pub grow : Grow w.relays v.relays
  pub breaks : BreaksOff w.source bytes (scene w.relays before no_counts) e v.relays
  pub world : v ≡ with_relays w v.relays (slice_set w.sessions (number - 1) None)

abbrev pub RefusesDelivery : WorldValue → ℕ → ℕ → WorldError → WorldValue → Type 0
RefusesDelivery w number bytes NoSession v = NoneIsOpenAt w number × (v ≡ w)
RefusesDelivery w number bytes e v = StopsDelivery w number bytes e v

abbrev pub RefusesCut : WorldValue → ℕ → WorldError → Type 0
RefusesCut w number NoSession = NoneIsOpenAt w number
RefusesCut w number e = ⊥

abbrev pub RefusesRestart : WorldValue → ℕ → WorldError → Type 0
RefusesRestart w relay NoSuchNode = ¬ (HasRelay w relay)
RefusesRestart w relay NoMemory = HasRelay w relay
RefusesRestart w relay e = ⊥

pub record StopsMerge (w : WorldValue) (into from : ℕ) (v : WorldValue) : Type 0 where
  pub nodes : AreTwo w into from
  pub leaves : LeavesMergeOfNodes w.source w.relays into from v.relays
  pub world : v ≡ with_relays w v.relays w.sessions

abbrev pub RefusesMerge : WorldValue → ℕ → ℕ → WorldError → WorldValue → Type 0
RefusesMerge w into from NoSuchNode v = ¬ (AreTwo w into from) × (v ≡ w)
RefusesMerge w into from NoMemory v = StopsMerge w into from v
RefusesMerge w into from e v = ⊥

-- the relay has the same links, of which less is folded than could be
pub record StopsPrune (w : WorldValue) (relay : ℕ) (v : WorldValue) : Type 0 where
  pub node : HasRelay w relay
  pub store : Stored
  pub keeps : KeepsLinks (node_of w relay) store
  pub world : v ≡ with_relays w (slice_set w.relays (relay - 1) store) w.sessions

abbrev pub RefusesPrune : WorldValue → ℕ → WorldError → WorldValue → Type 0
RefusesPrune w relay NoSuchNode v = ¬ (HasRelay w relay) × (v ≡ w)
RefusesPrune w relay NoMemory v = StopsPrune w relay v
RefusesPrune w relay e v = ⊥

abbrev pub RefusesRead : WorldValue → ℕ → List Data → WorldError → Type 0
RefusesRead w node operations NoSuchNode = ¬ (HasNode w node)
RefusesRead w node operations NotReadOnly = HasNode w node × (only_read operations ≡ false)
RefusesRead w node operations NoMemory = HasNode w node × (only_read operations ≡ true)
RefusesRead w node operations e = ⊥

-- ---- a step

-- what is replied to an event, and the world after it
abbrev pub Steps : WorldValue → Event → Result Reply WorldError → WorldValue → Type 0
Steps w (Commit id operations) (Ok (Results results)) v = CommitsTo w id operations results v
Steps w (Commit id operations) (Ok reply) v = ⊥
Steps w (Commit id operations) (Err e) v = RefusesCommit w id operations e v
Steps w (Trim id) (Ok Done) v = Renews w id v
Steps w (Trim id) (Ok reply) v = ⊥
Steps w (Trim id) (Err e) v = RefusesTrim w id e v
Steps w (Connect relay upstream) (Ok (Session number)) v = Connects w relay upstream number v
Steps w (Connect relay upstream) (Ok reply) v = ⊥
Steps w (Connect relay upstream) (Err e) v = RefusesConnect w relay upstream e × (v ≡ w)
Steps w (Deliver session bytes) (Ok (Took took held)) v = Brings w session bytes (record { took = took; held = held }) v
Steps w (Deliver session bytes) (Ok reply) v = ⊥
Steps w (Deliver session bytes) (Err e) v = RefusesDelivery w session bytes e v
Steps w (Cut session) (Ok Done) v = Cuts w session v
Steps w (Cut session) (Ok reply) v = ⊥
Steps w (Cut session) (Err e) v = RefusesCut w session e × (v ≡ w)
Steps w (Restart relay) (Ok Done) v = Restarts w relay v
Steps w (Restart relay) (Ok reply) v = ⊥
Steps w (Restart relay) (Err e) v = RefusesRestart w relay e × (v ≡ w)
Steps w (MergeFrom into from) (Ok Done) v = Merges w into from v
Steps w (MergeFrom into from) (Ok reply) v = ⊥
Steps w (MergeFrom into from) (Err e) v = RefusesMerge w into from e v
Steps w (Prune relay) (Ok (Dropped n)) v = Prunes w relay n v
Steps w (Prune relay) (Ok reply) v = ⊥
Steps w (Prune relay) (Err e) v = RefusesPrune w relay e v
Steps w (Read node operations) (Ok (Results results)) v = Reads w node operations results × (v ≡ w)
Steps w (Read node operations) (Ok reply) v = ⊥
Steps w (Read node operations) (Err e) v = RefusesRead w node operations e × (v ≡ w)

-- ---- a run

-- all events happen, one after another, and none is refused
abbrev pub IsRun : WorldValue → List Event → WorldValue → Type 0
IsRun w [] v = v ≡ w
IsRun w (e ∷ es) v = (next : WorldValue) × (reply : Reply) × Steps w e (Ok reply) next × IsRun next es v

-- an event is refused so, behind those that happened
pub record IsRefusedAt (w : WorldValue) (events : List Event) (e : WorldError) : Type 0 where
  pub before : List Event
  pub event : Event
  pub behind : List Event
  pub place : before ++ event ∷ behind ≡ events
  pub reached : WorldValue
  pub run : IsRun w before reached
  pub left : WorldValue
  pub refused : Steps reached event (Err e) left

-- there are one to nine relays, but no memory; or not so many
abbrev pub RefusesNew : ℕ → WorldError → Type 0
RefusesNew relays BadCount = ¬ (IsCount relays)
RefusesNew relays NoMemory = IsCount relays
RefusesNew relays e = ⊥

-- why events don't happen to a new world
abbrev pub RefusesRun : SchemaValue → ℕ → List Event → WorldError → Type 0
RefusesRun schema relays events e = RefusesNew relays e ⊎ IsRefusedAt (new_world schema relays) events e
