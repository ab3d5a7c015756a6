use Rattle.std.proofs.Common.{sym, subst}
use Rattle.ovs_types.specs.Schema.{SchemaValue}
use Rattle.ovs_query.specs.View.{IsMonitorOf}
use Rattle.ovs_cases.proofs.queries.steps.Goals as goal

pub step-requires : goal.step-requires
step-requires c = record {
  monitor = subst (λ (s : SchemaValue). IsMonitorOf s.description.tables c.args.monitor.now.watches) (sym c.loop-number.invariant) c.requires.monitor;
}
