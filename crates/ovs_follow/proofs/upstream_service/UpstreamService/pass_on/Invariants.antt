use Rattle.std.proofs.Common.{◌≡◌}
use Rattle.ovs_session.specs.declared.limits.TurnProgress.TheVariants.{Idle}
use Rattle.ovs_follow.specs.UpstreamState.{IsAllPassedOn}
use Rattle.ovs_follow.proofs.Passed.{Puts}
use Rattle.ovs_follow.proofs.upstream_service.UpstreamService.pass_on.Given as goal

abbrev pub invariant-loop-passed : goal.invariant-loop-passed
invariant-loop-passed g l =
    Puts l.fn.session l.session l.fn.out l.out
    × (l.session ≡ record l.fn.session { waiting = l.session.waiting; made = l.session.made })
    × (l.progress ≡ Idle → IsAllPassedOn l.session)
