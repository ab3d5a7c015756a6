use Rattle.std.proofs.Common.{List, length, ap, subst, sym}
use Rattle.ovs_links.specs.Store.{tables_of}
use Rattle.ovs_recorded_source.specs.Taking.{AreTaken, links_taken}
use Rattle.ovs_recorded_source.specs.declared.step.SourceStep.{SourceStep}
use Rattle.ovs_recorded_source.proofs.Taking.{none_taken}
use Rattle.ovs_recorded_source.proofs.taken_links.TakenLinks.new.Goals as goal

pub invariant_of-result : goal.invariant_of-result
invariant_of-result g c =
    let start = g.N.SourceName.start in
    let none = c.requires.none in (
      sym (ap (λ (made : List SourceStep). length (links_taken made)) none),
      subst (λ (made : List SourceStep). AreTaken start (tables_of start.source) (links_taken made)) (sym none) (none_taken start (tables_of start.source)),
    )
