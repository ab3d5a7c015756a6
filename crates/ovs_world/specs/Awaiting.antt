-- What a session between two nodes awaits: messages that tell the links of a chain.
use Rattle.std.specs.Prelude.{◌≡◌, ℕ, suc, List, [], ◌∷◌, codes}
use Rattle.serde_json.specs.Data.{string}
use Rattle.ovs_types.specs.declared.schema.Table.{Table}
use Rattle.ovs_links.specs.declared.link.Link.{Link}
use Rattle.ovs_query.specs.Whole.{IsWhole}
use Rattle.ovs_query.specs.declared.monitor.Notation.TheVariants.{Update3}
use Rattle.ovs_reader.specs.declared.subscription.Subscription.{Subscription}
use Rattle.ovs_upstream.specs.Lawful.{IsLinkAt, Answers}
use Rattle.ovs_upstream.specs.Talk.{Talk, Schema, Reached, Update, Aside, Improper, talk_of}
use Rattle.ovs_wire.specs.declared.message.Message.{Message}

-- a relay's monitor at its upstream: of all columns of these tables, under the name "relay", in `update3`
pub record IsRelayMonitor (tables : List Table) (m : Subscription) : Type 0 where
  pub named : m.id ≡ string (codes "relay")
  pub notation : m.monitor.notation ≡ Update3
  pub whole : IsWhole tables m.monitor.watches

-- the answer to the id that was asked: all links up to the first k are known, and nothing is told yet, or the next link is
abbrev pub TellsPlace : List Table → List Link → ℕ → ℕ → Talk → Type 0
TellsPlace tables ls asked k (Schema d) = ⊥
TellsPlace tables ls asked k (Reached known id d) = Answers tables ls asked known id d k
TellsPlace tables ls asked k (Update id d) = ⊥
TellsPlace tables ls asked k (Aside event) = ⊥
TellsPlace tables ls asked k Improper = ⊥

-- the link behind the first k is told
abbrev pub TellsLink : List Table → List Link → ℕ → Talk → Type 0
TellsLink tables ls k (Schema d) = ⊥
TellsLink tables ls k (Reached known id d) = ⊥
TellsLink tables ls k (Update id d) = IsLinkAt tables ls k id d
TellsLink tables ls k (Aside event) = ⊥
TellsLink tables ls k Improper = ⊥

-- the messages tell the links behind the first k, one by one, up to the first t
abbrev pub TellLinks : List Table → List Link → ℕ → ℕ → List Message → Type 0
TellLinks tables ls k t [] = k ≡ t
TellLinks tables ls k t (m ∷ ms) = TellsLink tables ls k (talk_of m) × TellLinks tables ls (suc k) t ms
