use Rattle.std.proofs.Common.{◌+◌, ◌≤◌, length}
use Rattle.ovs_session.specs.Counting.{SpendsAtMost}
use Rattle.ovs_session.specs.Serving.{Worked}
use Rattle.ovs_session.specs.Turning.{at_hand}
use Rattle.ovs_session.proofs.steps.answer_all.Given as goal

abbrev pub invariant-loop-answered : goal.invariant-loop-answered
invariant-loop-answered g l = record {
  worked : Worked g.S.Service.answers g.S.Service.tells l.fn.limits.most_unsent l.fn.session l.session;
  answered : length (at_hand l.session) + l._answered ≤ length (at_hand l.fn.session);
  spent : SpendsAtMost 0 l._answered l.fn.session.counts l.session.counts;
}
