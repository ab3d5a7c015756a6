use Rattle.ovs_session.proofs.Moved.{moved_more}
use Rattle.ovs_session.proofs.Whole.{answers_from_new, answers_all}
use Rattle.ovs_session.proofs.laws.session_laws.Goals as goal

pub returns : goal.returns
returns g c = record {
  turns = moved_more g.S.Service.answers g.S.Service.tells;
  stream = λ most. answers_from_new g.S.Service.answers g.S.Service.tells;
  all = λ most. answers_all g.S.Service.answers g.S.Service.tells;
}
