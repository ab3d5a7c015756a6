-- What is on its way to a relay: the node that it follows leads it along the links of an epoch.
use Rattle.std.specs.Prelude.{◌≡◌, ◌≤◌, ◌⊎◌, ℕ, List, [], ◌∷◌, Some, None, true, false, Ok}
use Rattle.ovs_types.specs.Schema.{SchemaValue}
use Rattle.ovs_types.specs.SchemaReading.{read_description}
use Rattle.ovs_types.specs.declared.schema.Table.{Table}
use Rattle.ovs_links.specs.Chains.{start_of}
use Rattle.ovs_links.specs.Epochs.{Epoch, EpochHistory, IsEpochIn, epochs_of, links_within}
use Rattle.ovs_links.specs.Store.{Stored, tables_of}
use Rattle.ovs_links.specs.declared.link.Link.{Link}
use Rattle.ovs_reader.specs.Session.{MayBeShown}
use Rattle.ovs_reader.specs.declared.subscription.Subscription.{Subscription}
use Rattle.ovs_source.specs.Commits.{IsSourceOf}
use Rattle.ovs_upstream.specs.Lawful.{IsAt}
use Rattle.ovs_upstream.specs.Talk.{talk_of}
use Rattle.ovs_upstream.specs.declared.up_session.SyncState.{SyncState}
use Rattle.ovs_upstream.specs.declared.up_session.SyncState.TheVariants.{Opening, Asking, At, Ended}
use Rattle.ovs_wire.specs.declared.message.Message.{Message}
use Rattle.ovs_world.specs.Asking.{schema_reply}
use Rattle.ovs_world.specs.Awaiting.{IsRelayMonitor, TellsPlace, TellLinks}
use Rattle.ovs_world.specs.Carrying.{IsIdle, Carries}
use Rattle.ovs_world.specs.Nodes.{folded_in}
use Rattle.ovs_world.specs.Sessions.{is_behind}
use Rattle.ovs_world.specs.declared.sim_session.SimSession.{SimSession}

-- ---- along links

-- the node's one monitor is the relay's, which was told at most the first n links
pub record HasMonitor (tables : List Table) (n : ℕ) (monitors : List Subscription) (m : Subscription) : Type 0 where
  pub only : monitors ≡ m ∷ []
  pub relay : IsRelayMonitor tables m
  pub within : m.position ≤ n

-- the schema is on its way
abbrev pub AwaitsSchema : SchemaValue → List Subscription → List Message → Type 0
AwaitsSchema schema monitors messages = (monitors ≡ []) × (messages ≡ schema_reply schema ∷ [])

-- the answer is on its way, which tells a place in the chain, and then the links behind it
pub record AwaitsAnswer (tables : List Table) (line : List Link) (n asked : ℕ) (monitors : List Subscription) (messages : List Message) : Type 0 where
  pub monitor : Subscription
  pub has : HasMonitor tables n monitors monitor
  pub answer : Message
  pub more : List Message
  pub are : messages ≡ answer ∷ more
  pub place : ℕ
  pub tells : TellsPlace tables line asked place (talk_of answer)
  pub links : TellLinks tables line place monitor.position more

-- the links behind the id are on their way
pub record AwaitsLinks (tables : List Table) (line : List Link) (n id : ℕ) (monitors : List Subscription) (messages : List Message) : Type 0 where
  pub monitor : Subscription
  pub has : HasMonitor tables n monitors monitor
  pub place : ℕ
  pub stands : IsAt line id place
  pub links : TellLinks tables line place monitor.position messages

-- what is on its way at a stage, where the node was shown the first n of the links
abbrev pub Awaits : SchemaValue → List Link → ℕ → ℕ → SyncState → List Subscription → List Message → Type 0
Awaits schema line n asked Opening monitors messages = AwaitsSchema schema monitors messages
Awaits schema line n asked Asking monitors messages = AwaitsAnswer schema.description.tables line n asked monitors messages
Awaits schema line n asked (At id) monitors messages = AwaitsLinks schema.description.tables line n id monitors messages
Awaits schema line n asked Ended monitors messages = ⊥

-- ---- a session

-- the links of an epoch of the source's history
pub record IsLineOf (source : Stored) (line : List Link) : Type 0 where
  pub history : EpochHistory
  pub of_source : IsSourceOf source history
  pub epoch : Epoch
  pub among : IsEpochIn (epochs_of history) epoch
  pub links : links_within (tables_of source) epoch ≡ line

-- the node leads the relay's end of the session along the links of an epoch, and tells nothing more once it has folded those
-- of a later one
pub record IsLed (source node : Stored) (s : SimSession) : Type 0 where
  pub schema : s.up.schema ≡ source.schema
  pub says : read_description s.up.schema.json ≡ Ok s.up.schema.description
  -- it knows no database at the id that it asks
  pub unknown : s.up.known ≡ None
  pub goes_on : s.reader.is_ended ≡ false
  pub shown : MayBeShown s.reader (folded_in node)
  pub idle : IsIdle s.upward
  pub line : List Link
  pub is_line : IsLineOf source line
  pub begun : s.begun ≡ start_of line
  pub start : s.reader.start ≡ Some s.begun
  pub messages : List Message
  pub carried : Carries s.downward messages
  pub awaits : ((messages ≡ []) × (is_behind (folded_in node) s ≡ true)) ⊎ Awaits source.schema line s.reader.shown s.up.asked s.up.stage s.reader.monitors messages
