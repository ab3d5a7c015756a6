use Rattle.std.proofs.Common.{◌≡◌, ⊎_elim, inl, ◌∙◌, ap, subst}
use Rattle.ovs_links.specs.Link.{IsStart}
use Rattle.ovs_links.specs.Store.{head_of}
use Rattle.ovs_source.specs.Commits.{IsSource}
use Rattle.ovs_source.proofs.Histories.{not_head}
use Rattle.ovs_source.proofs.source.Source.link_by.Goals as goal

pub unreachable-requires : goal.unreachable-requires
unreachable-requires c =
    let none = c.requires.not_taken in
    ⊎_elim
    (λ (start : IsStart c.args.id). none (inl start))
    (λ (same : c.args.id ≡ c.head.result). not_head c.args.self.now (subst IsSource c.self.view_is c.self.invariant) c.args.id none (same ∙ c.head.ensures.value ∙ ap head_of c.self.view_is))
    c.in-Err.ensures.bad_id
