use Rattle.std.proofs.Common.{◌≡◌, ◌∷◌, ap, ◌∙◌, arith, take}
use Rattle.std.proofs.Math.Nat.{lt_of_not-le}
use Rattle.ovs_world_script.specs.Closing.{node_line, node_lines}
use Rattle.ovs_world_script.proofs.Lines.{one_more, no_more}
use Rattle.ovs_world_script.proofs.closing.last_lines.Goals.{else-loop-node-test, then-loop-node-test+in_default}
use Rattle.ovs_world_script.proofs.closing.last_lines.Goals as goal

pub loop-node-preserved : goal.loop-node-preserved
loop-node-preserved c =
    let w = c.args.world.now in
    let line = c.as_str.ensures.value ∙ c.in_ok-line.ensures.text ∙ ap (node_line c.loop-node.node) c.in-Some.ensures.some.1 in
    c.in_ok-push_str.ensures.bytes ∙ one_more c.loop-node.node (w.source ∷ w.relays) w.source _ _ (let h = c.in-Some.ensures.some.0 in omega arith) c.loop-node.invariant line

pub returns : goal.returns
returns c =
    let all = c.args.world.now.source ∷ c.args.world.now.relays in
    elim c.loop-node-test.branch [
      | else-loop-node-test w ↦ (
          let is : c.loop-node.node ≡ 10 = omega (arith, w.loop-node-test.false, c.loop-node.auto.node-end) in
          record { text = c.loop-node.invariant ∙ ap (λ k. node_lines 0 (take k all)) is })
      | then-loop-node-test+in_default w ↦ record { text = c.loop-node.invariant ∙ no_more c.loop-node.node 10 all (lt_of_not-le (w.store.ensures.none w.in_default.is)) c.loop-node.auto.node-end }
    ]
