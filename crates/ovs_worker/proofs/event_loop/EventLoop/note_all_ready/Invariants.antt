use Rattle.std.proofs.Common.{◌≡◌}
use Rattle.ovs_worker.proofs.event_loop.EventLoop.note_all_ready.Given as goal

-- the poller is as it was
abbrev pub invariant-loop-key : goal.invariant-loop-key
invariant-loop-key g l = l.self.poller ≡ l.fn.self.poller
