use Rattle.std.proofs.Common.{◌≡◌, subst}
use Rattle.std.specs.Prelude.{IfOk}
use Rattle.serde_json.specs.View.{view}
use Rattle.ovs_query.proofs.ShownRows.{shown_whole}
use Rattle.ovs_query.proofs.monitor.row_update1.whole_json.Goals as goal

pub returns : goal.returns
returns c = record { value = subst (λ d. IfOk c.shown_json.result (λ v. view v ≡ d)) (shown_whole c.args.shown.now c.args.id c.args.row.now) c.shown_json.ensures.value }
