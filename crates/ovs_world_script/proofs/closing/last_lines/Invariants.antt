use Rattle.std.proofs.Common.{◌≡◌, ◌∷◌, take, string_bytes}
use Rattle.ovs_world_script.specs.Closing.{node_lines}
use Rattle.ovs_world_script.proofs.closing.last_lines.Given as goal

-- the lines of the nodes before this one
abbrev pub invariant-loop-node : goal.invariant-loop-node
invariant-loop-node l = string_bytes l.text ≡ node_lines 0 (take l.node (l.world.source ∷ l.world.relays))
