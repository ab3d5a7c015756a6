use Rattle.std.proofs.Common.{sym, ◌∙◌}
use Rattle.ovs_follow.proofs.Passed.{puts_said, puts_up, puts_more, puts_tried}
use Rattle.ovs_follow.proofs.upstream_service.UpstreamService.pass_next.Goals as goal

pub returns-then-has_waiting-clause-ok : goal.returns-then-has_waiting-clause-ok
returns-then-has_waiting-clause-ok g c =
    let said = c.in_ok-say_waiting.ensures.said in
    puts_said c.args.session.now c.say_waiting.new.self c.args.out.now c.say_waiting.new.out said.0 said.1 said.2 said.3

pub returns-then-not-has_waiting-clause-ok : goal.returns-then-not-has_waiting-clause-ok
returns-then-not-has_waiting-clause-ok g c =
    puts_up c.args.session.now c.next_request.new.self c.args.out.now (sym c.has_waiting.ensures.value ∙ c.if-has_waiting.false) c.in_ok-next_request.ensures.taken

pub returns-clause-ok : goal.returns-clause-ok
returns-clause-ok g c =
    let up = puts_up c.args.session.now c.next_request.new.self c.args.out.now (sym c.has_waiting.ensures.value ∙ c.if-has_waiting.false) c.in_ok-next_request.ensures.taken in
    let tried = c.say_waiting-2 in
    puts_more c.args.session.now c.next_request.new.self tried.new.self c.args.out.now c.args.out.now tried.new.out up
    (puts_tried tried.result c.next_request.new.self tried.new.self c.args.out.now tried.new.out tried.ensures.said tried.ensures.unchanged)
