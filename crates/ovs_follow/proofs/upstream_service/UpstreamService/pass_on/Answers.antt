use Rattle.std.proofs.Common.{◌∙◌, ap, Ok}
use Rattle.ovs_follow.specs.UpstreamState.{UpstreamStateValue}
use Rattle.ovs_follow.proofs.Passed.{puts_more}
use Rattle.ovs_follow.proofs.upstream_service.UpstreamService.pass_on.Goals as goal

pub loop-passed-preserved : goal.loop-passed-preserved
loop-passed-preserved g c =
    let next = c.pass_next-in-loop-passed in
    let mid = c.loop-passed in (
      puts_more c.args.session.now mid.session next.new.session c.args.out.now mid.out next.new.out mid.invariant.0 c.in-Ok.ensures.ok,
      next.ensures.rest ∙ ap (λ (f : UpstreamStateValue). record f { waiting = next.new.session.waiting; made = next.new.session.made }) mid.invariant.1,
      λ idle. next.ensures.idle (c.in-Ok.is ∙ ap Ok idle),
    )
