use Rattle.ovs_worker.proofs.event_loop.EventLoop.end_all.Given as goal

-- a poller that was closed still is, and all is still over
abbrev pub invariant-loop-key : goal.invariant-loop-key
invariant-loop-key g l =
    (g.D.Poller.is_closed l.fn.self.poller → g.D.Poller.is_closed l.self.poller) × g.D.Poller.is_over l.self.poller
