use Rattle.std.proofs.Common.{ℕ, List, ap, subst}
use Rattle.ovs_types.specs.Schema.{SchemaValue}
use Rattle.ovs_node_threads.specs.Reporting.{IsReport}
use Rattle.ovs_links.specs.declared.link.Link.{Link}
use Rattle.ovs_source.specs.SourceDesk.{AreFirst}
use Rattle.ovs_node_threads.proofs.Reports.{both_of}
use Rattle.ovs_source_node.proofs.Reports.{own_report}
use Rattle.ovs_source_node.proofs.source_threads.run_source.Goals as goal

pub returns-clause-report : goal.returns-clause-report
returns-clause-report g c =
    let first : (ls : List Link) → g.L.SharedSource.gives ls → AreFirst g.K.NodeName.schema.description.tables ls =
    (g.met.L.SharedSource g.world.𝓛 g.world.𝓜 g.world.𝓡 ((λ s x. x), (λ x. x), (λ x. x), λ x. x)).gives_first in
    both_of c.run_node.result _ _ _ (λ r report schema.
    own_report g.K.NodeName.schema.description.tables g.L.SharedSource.gives first r.store (ap (λ (s : SchemaValue). s.description.tables) schema)
    r.settled r.forks r.short r.dropped r.feed
    (subst (λ (ends : ℕ). IsReport g.L.SharedSource.gives ends r.feed r.store r.settled r.forks r.short r.dropped) c.requires.one report)) c.run_node.ensures.report c.run_node.ensures.schema
