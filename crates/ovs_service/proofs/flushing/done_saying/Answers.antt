use Rattle.ovs_service.proofs.Settled.{says_one}
use Rattle.ovs_service.proofs.flushing.done_saying.Goals as goal

pub returns-in-Ok-clause-done : goal.returns-in-Ok-clause-done
returns-in-Ok-clause-done c = says_one c.args.message c.args.out.now c.say_or_keep.new.out c.in-Ok.ensures.said
