use Rattle.std.proofs.Common.{◌≡◌}
use mathlib.Core.List.{IsPrefix}
use Rattle.ovs_worker.proofs.event_loop.EventLoop.call.Given as goal

-- a poller that was closed still is, and who was called before is called
abbrev pub invariant-loop : goal.invariant-loop
invariant-loop g l =
    (g.D.Poller.is_closed l.fn.self.poller → g.D.Poller.is_closed l.self.poller)
    × (IsPrefix l.fn.self.run_queue.came l.self.run_queue.came × (l.self.run_queue.went ≡ l.fn.self.run_queue.went))
