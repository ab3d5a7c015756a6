use Rattle.std.proofs.Common.{refl, ap, sym, subst, ◌∙◌, arith}
use Rattle.ovs_links.specs.Settling.{chain_of}
use Rattle.ovs_links.proofs.ChainOutcomes.{followed_is_whole}
use Rattle.ovs_node.proofs.Dropping.{account_pruned, none_left, same_chain, same_settled}
use Rattle.ovs_node.proofs.intake.Intake.prune.Goals as goal

pub prune-dropped-requires : goal.prune-dropped-requires
prune-dropped-requires g c =
    let s = c.self.inside.store in
    record { settled = (let chain = (followed_is_whole s c.head.ensures.store).longest in rw (ap (λ x. x.store.folded) c.self.view_is ∙ c.requires.settled ∙ ap (λ x. chain_of x.store) (sym c.self.view_is)) chain) }

pub invariant_of-self : goal.invariant_of-self
invariant_of-self g c =
    let n = c.saturating_add-self-inside in (
      ap (λ x. x.schema) c.prune-dropped.ensures.kept ∙ c.self.invariant.0,
      account_pruned _ _ c.prune-dropped.result c.self.invariant.1 c.head.ensures.store c.head-2.ensures.store c.prune-dropped.ensures.pruned c.prune-dropped.ensures.kept c.prune-dropped.ensures.count (omega (arith, n.ensures)) refl refl refl refl refl,
    )

pub returns-clause-settled : goal.returns-clause-settled
returns-clause-settled g c =
    let s = c.self.inside.store in
    let settled = ap (λ x. x.store.folded) c.self.view_is ∙ c.requires.settled ∙ ap (λ x. chain_of x.store) (sym c.self.view_is) in
    let t = c.prune-dropped.new.self in
    rw (← c.self.view_is) (
      same_chain s t c.head.ensures.store c.head-2.ensures.store c.prune-dropped.ensures.pruned c.prune-dropped.ensures.kept settled c.prune-dropped.ensures.chain,
      same_settled s t c.head.ensures.store c.head-2.ensures.store c.prune-dropped.ensures.pruned c.prune-dropped.ensures.kept settled c.prune-dropped.ensures.chain,
    )

pub returns-clause-none_old : goal.returns-clause-none_old
returns-clause-none_old g c = λ _.
    none_left c.self.inside.store c.prune-dropped.new.self c.head.ensures.store c.head-2.ensures.store c.prune-dropped.ensures.pruned c.prune-dropped.ensures.kept
