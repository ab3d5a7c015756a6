use Rattle.std.proofs.Common.{◌∙◌, ◌-◌, List, length, ap, subst, arith}
use mathlib.Core.List.{IsPrefix}
use Rattle.ovs_links.specs.Absorbing.{folded_by}
use Rattle.ovs_links.specs.Steps.{FoldedValue}
use Rattle.ovs_links.specs.declared.step.Step.{Step}
use Rattle.ovs_links.proofs.AbsorbingLemmas.{no_more}
use Rattle.ovs_views.proofs.Known.{of_chain}
use Rattle.ovs_views.proofs.published_copy.PublishedCopy.known_of_chain.Goals as goal

pub overflow_sub-before : goal.overflow_sub-before
overflow_sub-before g c =
    let folded = c.self.invariant ∙ ap (folded_by g.K.NodeName.schema) c.self.view_is in
    let chain = c.chain_len-chain.ensures.value ∙ ap (λ (f : FoldedValue). length f.steps) folded in
    let all = c.len.ensures.length ∙ ap length c.in_ok-all.ensures.value.0 in
    let most = no_more c.args.self.now in
    omega (arith, chain, all, most)

pub returns : goal.returns
returns g c =
    let folded = c.self.invariant ∙ ap (folded_by g.K.NodeName.schema) c.self.view_is in
    let chain = c.chain_len-chain.ensures.value ∙ ap (λ (f : FoldedValue). length f.steps) folded in
    let all = c.len.ensures.length ∙ ap length c.in_ok-all.ensures.value.0 in
    let begins = subst (λ (l : List Step). IsPrefix c.args.known.now l) c.in_ok-all.ensures.value.0 c.in_ok-all.ensures.value.1.begins in
    let known = c.len-3.ensures.length in
    let again = c.len-2.ensures.length in
    let past = c.if-len-before.false in
    let most = no_more c.args.self.now in
    record {
      value = of_chain c.args.known.now c.args.self.now (c.len-3.result - (c.len.result - c.chain_len-chain.result)) begins
          (omega (arith, chain, all, known, again, past, most)) (omega (arith, chain, all, known, again, past, most));
    }
