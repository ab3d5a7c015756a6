use Rattle.std.proofs.Common.{◌∙◌, refl}
use Rattle.serde_json.specs.View.{view}
use Rattle.ovs_data.specs.Spelling.{SpellsBoth}
use Rattle.ovs_data.specs.Writing.{pair_json}
use Rattle.ovs_data.proofs.Writings.{one_more}
use Rattle.ovs_data.proofs.datum.writing.pairs_json.Goals as goal

pub loop-pair-preserved : goal.loop-pair-preserved
loop-pair-preserved c =
    let more = one_more pair_json SpellsBoth c.loop-pair.items.items c.args.pairs.now c.loop-pair.pair-index c.in_ok-two.field-0 c.pair-item.result
    c.loop-pair-test.true c.pair-item.is (c.in_ok-two.ensures.value ∙ rw (c.in_ok-key.ensures.value, c.in_ok-value.ensures.value) refl)
    (view c.in_ok-key.key, view c.in_ok-value.value, c.in_ok-two.ensures.value, c.in_ok-key.ensures.spelled, c.in_ok-value.ensures.spelled)
    c.loop-pair.invariant.written c.loop-pair.invariant.spelled in
    record { written = rw c.in_ok-push.ensures.items more.0; spelled = rw c.in_ok-push.ensures.items more.1 }
