use Rattle.std.proofs.Common.{◌≡◌, ap, map, subst, sym, ◌∙◌}
use Rattle.std.specs.Prelude.{IfOk}
use Rattle.serde_json.specs.View.{view}
use Rattle.serde_json.specs.Written.{has_float}
use Rattle.ovs_rows.specs.Applied.{seen, AscendByPlace}
use Rattle.ovs_query.specs.declared.monitor.Notation.TheVariants.{Update}
use Rattle.ovs_query.specs.Updates.{row_updates}
use Rattle.ovs_query.specs.UpdateWriting.{row_update_json}
use Rattle.ovs_query.proofs.Mirroring.{step_replaced}
use Rattle.ovs_query.proofs.NoFloat.{row_update_no_float, ok_no_float, updates_no_float}
use Rattle.ovs_query.proofs.ShownRows.{all_whole}
use Rattle.ovs_query.proofs.Telling.{step_told1, told_alike}
use Rattle.ovs_query.proofs.monitor.Monitor.update1.Goals as goal

pub step_json-requires : goal.step_json-requires
step_json-requires c = record {
  ascending = subst AscendByPlace (sym c.rows.ensures.value) c.rows.ensures.ascending;
  tellable = all_whole c.as_slice.result.now (map seen c.rows.result.now);
}

pub returns-clause-value : goal.returns-clause-value
returns-clause-value c =
    subst (λ d. IfOk c.step_json.result (λ v. view v ≡ d))
    (told_alike Update _ _ _ _ c.rows.ensures.value c.as_slice.ensures.value ∙ step_told1 c.args.self.now.watches c.args.applied.now c.rows.ensures.ascending)
    c.step_json.ensures.value

pub returns-clause-mirrored : goal.returns-clause-mirrored
returns-clause-mirrored c = λ tables old new m all h k step. step_replaced tables c.args.self.now.watches m all old new c.args.applied.now h k c.rows.ensures.ascending step

pub returns-clause-whole : goal.returns-clause-whole
returns-clause-whole c =
    let watches = c.args.self.now.watches in
    ok_no_float c.step_json.result _ c.step_json.ensures.value
    (ap has_float (told_alike Update _ _ _ _ c.rows.ensures.value c.as_slice.ensures.value ∙ step_told1 watches c.args.applied.now c.rows.ensures.ascending)
    ∙ updates_no_float row_update_json row_update_no_float watches (row_updates watches c.args.applied.now))
