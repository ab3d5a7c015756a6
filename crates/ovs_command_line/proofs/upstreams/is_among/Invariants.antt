use Rattle.std.proofs.Common.{All, take}
use Rattle.ovs_address.specs.Address.{AreSame}
use Rattle.ovs_command_line.proofs.upstreams.is_among.Given as goal

-- those before this one are others
abbrev pub invariant-loop-other : goal.invariant-loop-other
invariant-loop-other l = record { none : All (λ other. ¬ (AreSame other l.fn.address)) (take l.other-index l.fn.others) }
