use Rattle.std.proofs.Common.{◌≡◌, ◌∙◌, ◌+◌, length, length-append, ap, sym, arith}
use Rattle.ovs_worker.proofs.Calling.{same_prefix}
use Rattle.ovs_worker.proofs.event_loop.EventLoop.serve_all.Goals as goal

pub returns-after-loop-waiting-clause-in_turn : goal.returns-after-loop-waiting-clause-in_turn
returns-after-loop-waiting-clause-in_turn g c =
    let now = c.loop-waiting.self.run_queue in
    let was = c.args.self.now.run_queue in
    let inv = c.loop-waiting.invariant in
    let all : length was.came ≡ length was.went + length was.keys.items = ap length was.in_order ∙ length-append was.went was.keys.items in
    let count : c.loop-waiting._waiting ≡ length was.keys.items = omega (arith, c.len-waiting-end.ensures.value) in
    same_prefix now.went was.came now.came (now.keys.items, sym now.in_order) inv.1.0 (omega (arith, inv.1.1, all, count))
