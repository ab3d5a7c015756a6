use Rattle.std.proofs.Common.{◌≡◌, ◌+◌, length}
use mathlib.Core.List.{IsPrefix}
use Rattle.ovs_worker.proofs.event_loop.EventLoop.serve_all.Given as goal

-- a poller that was closed still is, who was called before is called, and so many had their turns
abbrev pub invariant-loop-waiting : goal.invariant-loop-waiting
invariant-loop-waiting g l =
    (g.D.Poller.is_closed l.fn.self.poller → g.D.Poller.is_closed l.self.poller)
    × (IsPrefix l.fn.self.run_queue.came l.self.run_queue.came × (length l.self.run_queue.went ≡ length l.fn.self.run_queue.went + l._waiting))
