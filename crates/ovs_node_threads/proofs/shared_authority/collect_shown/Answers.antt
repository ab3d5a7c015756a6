use Rattle.std.proofs.Common.{◌≡◌, refl, true}
use Rattle.std.specs.Option.{ForSome}
use Rattle.ovs_desk.specs.Ledger.{due_to, next_standing}
use Rattle.ovs_desk.specs.ShownRuns.{IsShownFirst}
use Rattle.ovs_views.specs.Published.{is_shown}
use Rattle.ovs_node_threads.proofs.Collected.{collected, first_shown}
use Rattle.ovs_node_threads.proofs.LastSteps.{ends_behind, given}
use Rattle.ovs_node_threads.proofs.shared_authority.collect_shown.Goals as goal

pub returns-clause-given : goal.returns-clause-given
returns-clause-given g c =
    let ledger = c.args.desk.now.desk.forwards.ledger in
    let last = c.args.session.now.last in
    let may : c.args.is_held_back ≡ true → ForSome (next_standing c.args.session_id ledger) (λ id. is_shown last id ≡ true) = c.may_be_given.ensures.shown cc in
    let shown : c.args.is_held_back ≡ true → IsShownFirst c.args.session_id (is_shown last) ledger =
    λ held. first_shown last (due_to c.args.session_id ledger) (next_standing c.args.session_id ledger) refl (may held) in
    collected g.N.DeskName.database c.args.desk.now.steps c.args.is_held_back c.args.session_id c.args.session.now.last c.args.desk.now.desk _ _ shown
    c.in_ok-collect.ensures.owing c.in_ok-collect.ensures.given

pub returns-clause-ends : goal.returns-clause-ends
returns-clause-ends g c = given c.args.session_id _ _ _ (ends_behind _ _ _ _ c.may_be_given.ensures.learnt c.in_ok-collect.ensures.ends)
