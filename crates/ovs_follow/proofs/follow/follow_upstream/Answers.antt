use Rattle.std.proofs.Common.{refl}
use Rattle.ovs_follow.proofs.Derived.{first_of, all_of, told_of}
use Rattle.ovs_follow.proofs.follow.follow_upstream.Goals as goal

pub returns-clause-sent : goal.returns-clause-sent
returns-clause-sent g c = first_of _ _ _ _ _ _ _ _ _ _ _ _ _ c.serve_new-served.ensures.followed

pub returns-clause-closed : goal.returns-clause-closed
returns-clause-closed g c = λ closed. (
  (c.serve_new-served.ensures.followed.closed closed).1,
  all_of _ _ _ _ _ _ _ _ _ _ _ _ _ c.serve_new-served.ensures.followed closed,
)

pub returns-clause-told : goal.returns-clause-told
returns-clause-told g c = told_of _ _ _ _ _ _ _ _ _ _ _ _ _ refl c.serve_new-served.ensures.followed
