use Rattle.std.proofs.Common.{◌≡◌, [], ◌∷◌, ◌++◌, sym, subst}
use Rattle.std.specs.Prelude.{OnOk}
use Rattle.ovs_node_threads.specs.Reporting.{AreSent}
use Rattle.ovs_node_threads.proofs.Reports.{more_back}
use Rattle.ovs_node_threads.proofs.ending.take_back.Goals as goal
use Rattle.ovs_node_threads.proofs.ending.take_back.Goals.{in-Ok, in-Err}

pub returns-clause-sent : goal.returns-clause-sent
returns-clause-sent g c =
    let was = c.args.node.now.intake.feed in
    let now = c.join.new.self.intake.feed in
    elim c.match-join.branch [
      | in-Ok w ↦
          let is = subst (λ r. OnOk r (now ≡ record { taken = was.taken; ends = was.ends; returned = was.returned ++ c.in_ok-take_end.field-0.1 ∷ [] })) w.in-Ok.is c.join.ensures.feed in
          subst (λ r. OnOk r (∥ AreSent g.F.Sender.sends now.returned ∥₁)) (sym w.result-is)
          (more_back g.F.Sender.sends was now c.in_ok-take_end.field-0.1 c.requires.sent c.in_ok-take_end.ensures.sent is)
      | in-Err w ↦ subst (λ r. OnOk r (∥ AreSent g.F.Sender.sends now.returned ∥₁)) (sym w.result-is) tt
    ]
