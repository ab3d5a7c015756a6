-- A delivery to a session, as the moves that it is made of.
use Rattle.std.specs.Prelude.{◌≡◌, ◌≤◌, ◌<◌, ◌+◌, ◌-◌, ◌⊎◌, ℕ, zero, suc, List, [], ◌∷◌, length, slice_set}
use Rattle.std.specs.List.{AllByRecursion}
use Rattle.ovs_links.specs.Sets.{Among, Holds}
use Rattle.ovs_links.specs.Steps.{FoldedValue}
use Rattle.ovs_links.specs.Store.{Stored}
use Rattle.ovs_links.specs.declared.link.Link.{Link}
use Rattle.ovs_world.specs.Carrying.{Line, Moves, Chokes, MeetsLarge, IsWhole}
use Rattle.ovs_world.specs.Leading.{IsLed}
use Rattle.ovs_world.specs.Nodes.{IsTier, node_at, folded_in, held, plus, counts_of}
use Rattle.ovs_world.specs.declared.error.WorldError.{WorldError}
use Rattle.ovs_world.specs.declared.error.WorldError.TheVariants.{TooLarge, NoMemory}
use Rattle.ovs_world.specs.Sessions.{Pumps, HearsNext, IsGone, AsksLargeNext, with_line}
use Rattle.ovs_world.specs.declared.holding.Taken.{Taken}
use Rattle.ovs_world.specs.declared.sim_session.SimSession.{SimSession}

-- the relays, a session, and what its delivery has counted so far
pub record Scene : Type 0 where
  pub relays : List Stored
  pub session : SimSession
  pub counts : Taken

abbrev pub scene : List Stored → SimSession → Taken → Scene
scene relays session counts = record { relays = relays; session = session; counts = counts }

-- what the node that the session follows has folded
abbrev pub followed : Stored → Scene → FoldedValue
followed source a = folded_in (node_at source a.relays a.session.upstream)

-- the i-th relay took links, and settled
abbrev pub holding : List Stored → ℕ → List Link → List Stored
holding [] i ls = []
holding (s ∷ ss) zero ls = held s ls ∷ ss
holding (s ∷ ss) (suc i) ls = s ∷ holding ss i ls

-- ---- moves

pub data Move : Type 0 where
  -- nothing is in flight, and the node tells what it has folded and hasn't told
  Tell : Move
  -- so many of the bytes in flight reach the relay
  Feed : ℕ → Move
  -- one of the next so many bytes makes a message above the limits; those before it can still be heard
  Choke : ℕ → Move
  -- the relay hears the first message that is whole, makes these links of it, takes them and settles
  Hear : List Link → Move

abbrev pub Does : Stored → Move → Scene → Scene → Type 0
Does source Tell a b =
    (a.session.downward.flight ≡ []) × Pumps (followed source a) a.session b.session × (b.relays ≡ a.relays) × (b.counts ≡ a.counts)
Does source (Feed n) a b =
    (n ≤ length a.session.downward.flight)
    × ((line : Line) × Moves a.session.downward n line × (b ≡ scene a.relays (with_line a.session line) a.counts))
Does source (Choke n) a b = (line : Line) × Chokes a.session.downward n line × (b ≡ scene a.relays (with_line a.session line) a.counts)
Does source (Hear links) a b =
    HearsNext (followed source a) a.session links b.session × (b.relays ≡ holding a.relays (a.session.relay - 1) links)
    × (b.counts ≡ plus a.counts (counts_of (node_at source a.relays a.session.relay) links))

-- one move after another
abbrev pub DoesAll : Stored → List Move → Scene → Scene → Type 0
DoesAll source [] a b = b ≡ a
DoesAll source (v ∷ vs) a c = (b : Scene) × Does source v a b × DoesAll source vs b c

-- how many bytes reached the relay
abbrev pub fed_by : List Move → ℕ
fed_by [] = 0
fed_by (Tell ∷ vs) = fed_by vs
fed_by (Feed n ∷ vs) = n + fed_by vs
fed_by (Choke n ∷ vs) = n + fed_by vs
fed_by (Hear links ∷ vs) = fed_by vs

-- moves by which so many bytes reach the relay
abbrev pub Leads : Stored → ℕ → Scene → Scene → Type 0
Leads source n a b = (moves : List Move) × DoesAll source moves a b × (fed_by moves ≡ n)

-- ---- a delivery

-- no message waits to be heard, and none above the limits has come
pub record IsQuiet (s : SimSession) : Type 0 where
  pub heard : s.downward.framing.waiting ≡ []
  pub whole : IsWhole s.downward.framing.ending

-- nothing is in flight, and nothing is left to be told, or the session is gone
abbrev pub IsToldOut : FoldedValue → SimSession → Type 0
IsToldOut f s = ((s.downward.flight ≡ []) × AllByRecursion (λ m. m.position ≡ length f.steps) s.reader.monitors) ⊎ IsGone f s

-- n bytes reach the relay, or, if there are fewer, all that the node has to tell; and the relay has heard all that is whole
pub record Delivers (source : Stored) (n : ℕ) (a b : Scene) : Type 0 where
  pub fed : ℕ
  pub within : fed ≤ n
  pub moves : Leads source fed a b
  pub quiet : IsQuiet b.session
  pub ends : (fed ≡ n) ⊎ IsToldOut (followed source b) b.session

-- ---- a delivery that breaks off

-- it took at most some of these links, and settled or not
abbrev pub TakesSome : Stored → List Link → Stored → Type 0
TakesSome s links t = (l : Link) → Holds t.links l → Holds s.links l ⊎ Among links l

-- of the first message that waits the relay may have taken some links
abbrev pub TakesSomeNext : Stored → SimSession → List Stored → List Stored → Type 0
TakesSomeNext source s relays left =
    (left ≡ relays)
    ⊎ ((links : List Link) × (t : SimSession) × HearsNext (folded_in (node_at source relays s.upstream)) s links t
    × ((store : Stored) × TakesSome (node_at source relays s.relay) links store × (left ≡ slice_set relays (s.relay - 1) store)))

-- the first message that waits isn't heard: what the relay has to ask is above the limits; or memory ran out
abbrev pub StopsHearing : Stored → SimSession → List Stored → WorldError → List Stored → Type 0
StopsHearing source s relays TooLarge left = AsksLargeNext s × (left ≡ relays)
StopsHearing source s relays NoMemory left = TakesSomeNext source s relays left
StopsHearing source s relays e left = ⊥

-- the same of a later one, to which moves lead
abbrev pub StopsHearingAll : Stored → Scene → WorldError → List Stored → Type 0
StopsHearingAll source a TooLarge left = (b : Scene) × Leads source 0 a b × AsksLargeNext b.session × (left ≡ b.relays)
StopsHearingAll source a NoMemory left = (b : Scene) × Leads source 0 a b × TakesSomeNext source b.session b.relays left
StopsHearingAll source a e left = ⊥

-- the next message is above the limits, and those before it were heard; or what the relay has to ask at the next one is
pub record MeetsTooLarge (source : Stored) (n : ℕ) (a : Scene) (relays : List Stored) : Type 0 where
  pub fed : ℕ
  pub within : fed ≤ n
  pub at : Scene
  pub moves : Leads source fed a at
  pub large : MeetsLarge at.session.downward ⊎ AsksLargeNext at.session
  pub left : relays ≡ at.relays

-- memory ran out behind some moves, and of the message that is heard next some links may be taken
pub record RunsOut (source : Stored) (n : ℕ) (a : Scene) (relays : List Stored) : Type 0 where
  pub fed : ℕ
  pub within : fed ≤ n
  pub at : Scene
  pub moves : Leads source fed a at
  pub left : TakesSomeNext source at.session at.relays relays

-- why it breaks off, and which relays it leaves
abbrev pub BreaksOff : Stored → ℕ → Scene → WorldError → List Stored → Type 0
BreaksOff source n a TooLarge relays = MeetsTooLarge source n a relays
BreaksOff source n a NoMemory relays = RunsOut source n a relays
BreaksOff source n a e relays = ⊥

-- ---- what is so of a session between two nodes

-- a session between a relay and a node that leads it along links of the source
pub record IsBetween (source : Stored) (relays : List Stored) (s : SimSession) : Type 0 where
  pub relay : (0 < s.relay) × (s.relay ≤ length relays)
  pub upstream : s.upstream ≤ length relays
  pub led : IsLed source (node_at source relays s.upstream) s

pub record IsScene (source : Stored) (relays : List Stored) (s : SimSession) : Type 0 where
  pub tier : IsTier source relays
  pub between : IsBetween source relays s
