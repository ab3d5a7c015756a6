use Rattle.std.proofs.Common.{rules, ◌≡◌, ◌++◌, ◌∷◌, ◌-◌, List, [], length, take, ap, sym, subst, ◌∙◌, arith}
use Rattle.ovs_links.specs.declared.step.Step.{Step}
use Rattle.ovs_rows.specs.After.{ArePutOf}
use Rattle.ovs_links.specs.Steps.{tables_in}
use Rattle.ovs_links.specs.Absorbing.{folded_by, folded_more}
use Rattle.ovs_views.specs.Published.{IsNodeChain}
use Rattle.ovs_links.proofs.AbsorbingLemmas.{folded_next}
use Rattle.ovs_views.proofs.Next.{next, last_put}
use Rattle.ovs_views.proofs.published_copy.PublishedCopyAbsorbNextStep.absorb_first.Goals as goal

pub invariant_of-self : goal.invariant_of-self
invariant_of-self g c =
    let schema = g.K.NodeName.schema in
    let xs = c.self.inside.front in
    let s = c.next.inside.step in
    let front = c.longer-front.result in
    let after = c.front-after.result.now in
    let ends : after ≡ take (length after - 1) after ++ s ∷ [] = subst (λ (l : List Step). l ≡ take (length l - 1) l ++ s ∷ []) (sym c.front-after.ensures.value) c.next.invariant in
    let is : front ≡ xs ++ s ∷ [] = next xs after front s (omega (arith, c.len-old.ensures.length, c.len-new.ensures.length)) ends c.longer-front.ensures.one c.longer-front.ensures.this c.longer-front.ensures.that in
    let chain : IsNodeChain schema (xs ++ s ∷ []) = subst (λ l. IsNodeChain schema l) is c.len.ensures.holds in
    let old = c.self.invariant in
    let may : ArePutOf (tables_in c.self.inside.folded) s.applied = rw old (last_put schema.description.tables xs s chain.chain.of_tables) in
    let new : c.absorb.new.self ≡ folded_more c.self.inside.folded s = search (rules, may) in
    new ∙ ap (λ f. folded_more f s) old ∙ folded_next schema xs s ∙ ap (λ l. folded_by schema l) (sym is)
