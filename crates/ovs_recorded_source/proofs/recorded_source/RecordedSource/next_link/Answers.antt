use Rattle.std.proofs.Common.{subst, sym}
use Rattle.std.specs.Prelude.{IfSome}
use Rattle.ovs_types.specs.declared.schema.Schema.{Schema}
use Rattle.ovs_links.specs.Sets.{IsOfTables}
use Rattle.ovs_links.specs.Store.{tables_of}
use Rattle.ovs_source.specs.SourceDesk.{AreFirst}
use Rattle.ovs_recorded_source.specs.Steps.{RecordedValue, begun}
use Rattle.ovs_recorded_source.specs.Taking.{links_taken}
use Rattle.ovs_recorded_source.proofs.Keeping.{steps_keep}
use Rattle.ovs_recorded_source.proofs.Taking.{are_first}
use Rattle.ovs_recorded_source.proofs.recorded_source.RecordedSource.next_link.Goals as goal
use Rattle.ovs_recorded_source.proofs.recorded_source.RecordedSource.next_link.Goals.{then-is_some, else-is_some}

pub returns-clause-tables : goal.returns-clause-tables
returns-clause-tables g c =
    subst (λ (x : Schema). IfSome c.next_link-link.result (IsOfTables x.description.tables)) (steps_keep (begun g.N.SourceName.start) c.self.inside.front c.self.inside.desk c.self.invariant.0.run)
    c.next_link-link.ensures.tables

pub returns-clause-first : goal.returns-clause-first
returns-clause-first g c =
    let start = g.N.SourceName.start in
    let first = are_first start c.record_step.new.front _ c.record_step.ensures.made in
    elim c.if-is_some.branch [
      | then-is_some w ↦ subst (λ (r : RecordedValue). AreFirst (tables_of start.source) (links_taken r.steps)) (sym w.self-is) first
      | else-is_some w ↦ subst (λ (r : RecordedValue). AreFirst (tables_of start.source) (links_taken r.steps)) (sym w.self-is) first
    ]
