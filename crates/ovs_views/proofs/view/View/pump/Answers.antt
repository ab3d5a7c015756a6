use Rattle.std.proofs.Common.{rules, ◌≡◌, ◌∙◌, List, [], sym, subst}
use Rattle.std.proofs.lemmas.List.{append-nil}
use Rattle.std.specs.Prelude.{IfOk, OnOk}
use Rattle.ovs_links.specs.Absorbing.{folded_by}
use Rattle.ovs_links.specs.declared.step.Step.{Step}
use Rattle.ovs_reader.specs.Telling.{told_some, after_some}
use Rattle.ovs_views.proofs.view.View.pump.Goals as goal

pub returns-in_err-front-in-Some-clause-known : goal.returns-in_err-front-in-Some-clause-known
returns-in_err-front-in-Some-clause-known g c = ([], append-nil c.args.self.now ∙ sym c.self.view_is)

pub returns-clause-told : goal.returns-clause-told
returns-clause-told g c =
    let schema = g.K.NodeName.schema in
    let session = c.args.session.now.session in
    let shown : c.deref-in-Some.result.now ≡ c.in_ok-front-in-Some.front = search rules in
    subst (λ (ss : List Step). IfOk c.pump.result (λ ms. ms.items ≡ told_some c.args.most session.monitors (folded_by schema ss).steps)) shown c.pump.ensures.told

pub returns-clause-after : goal.returns-clause-after
returns-clause-after g c =
    let schema = g.K.NodeName.schema in
    let session = c.args.session.now.session in
    let shown : c.deref-in-Some.result.now ≡ c.in_ok-front-in-Some.front = search rules in
    subst (λ (ss : List Step). OnOk c.pump.result (c.pump.new.self ≡ record { session = after_some c.args.most session (folded_by schema ss); last = ss })) shown
    c.pump.ensures.after
