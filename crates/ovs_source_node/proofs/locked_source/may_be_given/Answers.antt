use Rattle.std.proofs.Common.{◌≡◌, ◌∙◌, Bool, List, Result, sym, subst, true}
use Rattle.std.specs.Prelude.{IfOk}
use Rattle.ovs_views.specs.Published.{is_shown}
use Rattle.ovs_views.specs.declared.view_error.Gone.{Gone}
use Rattle.ovs_recorded_source.specs.Steps.{DoesAll, begun}
use Rattle.ovs_recorded_source.specs.declared.step.SourceStep.{SourceStep}
use Rattle.ovs_source_node.proofs.locked_source.may_be_given.Goals as goal

pub returns-in-Some-clause-unshown : goal.returns-in-Some-clause-unshown
returns-in-Some-clause-unshown g c is =
    let held : c.args.is_held_back ≡ true = cc in
    let shown = subst (λ (r : Result Bool Gone). IfOk r (λ has. has ≡ is_shown c.args.session.now.last c.in-Some.id)) is c.has_shown.ensures.value in (
      held,
      record {
        learnt = c.standing.ensures.before;
        state = c.args.desk.now.state;
        run = subst (λ (made : List SourceStep). DoesAll (begun g.N.SourceName.start) made c.args.desk.now.state) (sym c.standing.ensures.told) c.standing.ensures.made;
        id = c.in-Some.id;
        stands = sym c.standing.ensures.value ∙ c.in-Some.is;
        unshown = sym shown;
      },
    )
