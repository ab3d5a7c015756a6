use Rattle.std.proofs.Common.{◌≡◌, ap, subst, ◌∙◌}
use Rattle.std.specs.Prelude.{IfOk}
use Rattle.serde_json.specs.View.{view}
use Rattle.serde_json.specs.Written.{has_float}
use Rattle.ovs_query.specs.Telling.{first_members}
use Rattle.ovs_query.specs.UpdateWriting.{tables_json}
use Rattle.ovs_query.proofs.Beginnings.{first_mirrored, first_replaced}
use Rattle.ovs_query.proofs.FirstRows.{first_told}
use Rattle.ovs_query.proofs.NoFloat.{initial_no_float, ok_no_float}
use Rattle.ovs_query.proofs.monitor.Monitor.initial.Goals as goal

pub returns-clause-value : goal.returns-clause-value
returns-clause-value c =
    let m = c.args.self.now in
    let rows = c.args.database.now.rows in
    subst (λ d. IfOk c.first_json.result (λ v. view v ≡ d)) (ap (tables_json (first_members m.notation rows)) c.as_slice.ensures.value ∙ first_told m.notation m.watches rows) c.first_json.ensures.value

pub returns-clause-mirrored : goal.returns-clause-mirrored
returns-clause-mirrored c = first_mirrored c.args.self.now.watches c.args.database.now.rows

pub returns-clause-replaced : goal.returns-clause-replaced
returns-clause-replaced c = first_replaced c.args.self.now.watches c.args.database.now.rows

pub returns-clause-whole : goal.returns-clause-whole
returns-clause-whole c =
    let m = c.args.self.now in
    let rows = c.args.database.now.rows in
    ok_no_float c.first_json.result _ c.first_json.ensures.value
    (ap (λ ws. has_float (tables_json (first_members m.notation rows) ws)) c.as_slice.ensures.value ∙ ap has_float (first_told m.notation m.watches rows) ∙ initial_no_float m.notation m.watches rows)
