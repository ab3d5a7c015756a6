use Rattle.std.proofs.Common.{◌∙◌, sym, set, ap}
use Rattle.std.proofs.lemmas.List.Edits.{map_over_more}
use Rattle.ovs_reader.specs.Telling.{moved_past}
use Rattle.ovs_reader.proofs.session.move_all_past.Goals as goal

pub loop-monitor-preserved : goal.loop-monitor-preserved
loop-monitor-preserved c =
    let i = c.loop-monitor.monitor-index in
    let ms = c.loop-monitor.monitors in
    let k = c.args.position in
    ap (set ms i) c.move_past.ensures.value ∙ ap (λ m. set ms i (moved_past k m)) (sym c.monitor-item.is)
    ∙ map_over_more (moved_past k) c.args.monitors.now ms i c.monitor-item.result c.loop-monitor-test.true c.loop-monitor.invariant c.monitor-item.is
