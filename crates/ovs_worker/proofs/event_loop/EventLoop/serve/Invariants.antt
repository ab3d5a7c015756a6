use Rattle.std.proofs.Common.{◌≡◌}
use Rattle.ovs_worker.proofs.event_loop.EventLoop.serve.Given as goal

-- a poller that was closed still is, and nobody was called
abbrev pub invariant-loop-turn : goal.invariant-loop-turn
invariant-loop-turn g l =
    (g.D.Poller.is_closed l.fn.self.poller → g.D.Poller.is_closed l.self.poller)
    × (l.self.run_queue.came ≡ l.fn.self.run_queue.came) × (l.self.run_queue.went ≡ l.fn.self.run_queue.went)
