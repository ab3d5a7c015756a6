use Rattle.std.proofs.Common.{◌≡◌, ◌++◌, take, drop, map}
use Rattle.ovs_world.specs.Worlds.{cut_of}
use Rattle.ovs_world.proofs.world.cut_sessions_of.Given as goal

abbrev pub invariant-loop-session : goal.invariant-loop-session
invariant-loop-session l = l.sessions ≡ map (cut_of l.relay) (take l.session-index l.fn.sessions) ++ drop l.session-index l.fn.sessions
