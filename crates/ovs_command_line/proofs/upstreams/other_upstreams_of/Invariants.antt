use Rattle.std.proofs.Common.{All, take}
use Rattle.ovs_address.specs.Address.{AreSame}
use Rattle.ovs_command_line.proofs.upstreams.other_upstreams_of.Given as goal

-- those before this one have other addresses
abbrev pub invariant-loop-upstream : goal.invariant-loop-upstream
invariant-loop-upstream l = record { others : All (λ upstream. All (λ address. ¬ (AreSame address l.fn.listen)) upstream.items) (take l.upstream-index l.upstream-items) }
