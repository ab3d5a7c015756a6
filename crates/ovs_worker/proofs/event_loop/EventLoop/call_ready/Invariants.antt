use Rattle.ovs_worker.proofs.event_loop.EventLoop.call_ready.Given as goal

-- a poller that was closed still is
abbrev pub invariant-loop-ready : goal.invariant-loop-ready
invariant-loop-ready g l = g.D.Poller.is_closed l.fn.self.poller → g.D.Poller.is_closed l.self.poller
