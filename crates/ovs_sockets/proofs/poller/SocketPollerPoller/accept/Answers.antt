use Rattle.std.proofs.Common.{◌∙◌, ap}
use Rattle.ovs_worker.specs.Connections.{out_of}
use Rattle.ovs_sockets.proofs.poller.SocketPollerPoller.accept.Goals as goal

pub returns-in-Some-clause-others : goal.returns-in-Some-clause-others
returns-in-Some-clause-others g c = λ other differs. c.note_came.ensures.others other differs ∙ ap (λ n. out_of n other) c.take.ensures.same.1

pub returns-in-None-clause-came : goal.returns-in-None-clause-came
returns-in-None-clause-came g c = ap (λ n. out_of n c.args.key) c.take.ensures.same.1 ∙ c.requires.free
