use Rattle.std.proofs.Common.{◌≡◌, true, false, subst, sym, ◌∙◌}
use Rattle.std.specs.Prelude.{◌↔◌, IsTrue}
use Rattle.ovs_links.specs.Link.{IsStart}
use Rattle.ovs_links.specs.Store.{Stored}
use Rattle.ovs_source.specs.Commits.{IsTaken}
use Rattle.ovs_source.proofs.Histories.{taken_exactly}
use Rattle.ovs_source.proofs.source.Source.is_taken.Goals as goal

pub returns-else-is_start : goal.returns-else-is_start
returns-else-is_start c =
    let past : ¬ (IsStart c.args.id) = λ start. (let t : c.is_start.result ≡ true = c.is_start.ensures.start.1 start in absurd (let clash : false ≡ true = sym c.if-is_start.false ∙ t in cc)) in
    record { value = subst (λ (s : Stored). IsTrue c.has_id.result ↔ IsTaken s c.args.id) c.self.view_is (taken_exactly c.self.inside.store c.args.id c.has_id.result past c.has_id.ensures.found c.has_id.ensures.none) }
