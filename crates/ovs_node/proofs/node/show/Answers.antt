use Rattle.std.proofs.Common.{rules, ◌≡◌, ◌++◌, ◌∷◌, [], ◌+◌, get_or, ap, sym, subst, ◌∙◌, arith}
use Rattle.ovs_links.specs.Absorbing.{last_chain}
use Rattle.ovs_views.specs.Published.{IsNodeChain, all_with}
use Rattle.ovs_node.specs.InStep.{HasShown}
use Rattle.ovs_node.proofs.Begins.{next_shown, shown_begins}
use Rattle.ovs_node.proofs.node.show.Goals as goal

pub fold-requires-clause-next : goal.fold-requires-clause-next
fold-requires-clause-next g c =
    let schema = g.K.NodeName.schema in
    let l = c.loop-number in
    let xs = all_with l.publisher.front l.publisher.kept in
    let s = c.index-steps-number.result in
    let same : get_or c.args.steps.now l.number s ≡ c.in_ok-copy.field-0 = search rules in
    let n = next_shown schema xs c.args.steps.now l.number s l.invariant.2 c.requires.chain l.invariant.1 c.loop-number-test.true in
    subst (λ y. IsNodeChain schema (xs ++ y ∷ [])) same n.0

pub loop-number-preserved : goal.loop-number-preserved
loop-number-preserved g c =
    let schema = g.K.NodeName.schema in
    let l = c.loop-number in
    let xs = all_with l.publisher.front l.publisher.kept in
    let s = c.index-steps-number.result in
    let ys = c.args.steps.now in
    let same : get_or ys l.number s ≡ c.in_ok-copy.field-0 = search rules in
    let n = next_shown schema xs ys l.number s l.invariant.2 c.requires.chain l.invariant.1 c.loop-number-test.true in
    let all : all_with c.fold.new.self.front c.fold.new.self.kept ≡ xs ++ c.in_ok-copy.field-0 ∷ [] = c.in_ok-fold.ensures.folded in
    let shown : HasShown (last_chain (all_with c.fold.new.self.front c.fold.new.self.kept)) ys (l.number + 1) =
    rw all (subst (λ y. HasShown (last_chain (xs ++ y ∷ [])) ys (l.number + 1)) same n.1) in (
      record { handed_on = c.fold.ensures.handed_on; begins = shown_begins (last_chain (all_with c.fold.new.self.front c.fold.new.self.kept)) ys (l.number + 1) shown },
      shown,
      rw all (subst (λ y. IsNodeChain schema (xs ++ y ∷ [])) same n.0),
    )

pub returns-in_err-fold-clause-in_step : goal.returns-in_err-fold-clause-in_step
returns-in_err-fold-clause-in_step g c =
    record { handed_on = c.fold.ensures.handed_on; begins = rw c.in_err-fold.ensures.unchanged c.loop-number.invariant.0.begins }
