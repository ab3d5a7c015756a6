use Rattle.std.proofs.Common.{sym, ap, subst, ◌∙◌}
use Rattle.ovs_links.specs.Absorbing.{StepsGoOn}
use Rattle.ovs_links.proofs.AbsorbingLemmas.{goes_on}
use Rattle.ovs_node.specs.Ledger.{steps_in}
use Rattle.ovs_node.proofs.Begins.{settled_again, settled_chain}
use Rattle.ovs_node.proofs.node.Node+K+Q+Handle+K+R.fold_pending.Goals as goal

pub returns-in_err-self-clause-in_step : goal.returns-in_err-self-clause-in_step
returns-in_err-self-clause-in_step g c =
    let was = c.requires.in_step in
    let next = subst (λ ss. StepsGoOn ss (steps_in c.settle.new.self.store)) c.in_ok-take_kept.ensures.steps c.in_err-self.ensures.grows in
    record { handed_on = was.handed_on; begins = goes_on _ _ _ was.begins next }

pub show-requires-clause-in_step : goal.show-requires-clause-in_step
show-requires-clause-in_step g c =
    let was = c.requires.in_step in
    let next = subst (λ ss. StepsGoOn ss (steps_in c.settle.new.self.store)) c.in_ok-take_kept.ensures.steps c.in_ok-self.ensures.grows in
    record { handed_on = was.handed_on; begins = rw (c.steps.ensures.value, c.folded-folded.ensures.steps) (goes_on _ _ _ was.begins next) }

pub prune-requires : goal.prune-requires
prune-requires g c = record { settled = settled_chain _ _ c.in_ok-self.ensures.settled.1 }

pub returns-clause-rest : goal.returns-clause-rest
returns-clause-rest g c =
    let s = c.in_ok-self.ensures.settled in
    let p = c.prune.ensures in
    record {
      taken = ap (λ i. i.kept) p.others ∙ ap (λ i. i.kept) c.in_ok-self.ensures.others ∙ c.in_ok-take_kept.ensures.taken;
      chain = p.settled.0;
      settled_as = s.0 ∙ sym (settled_again _ _ s.1) ∙ sym p.settled.1;
      shown_all = c.in_ok-show.ensures.shown ∙ c.steps.ensures.value ∙ c.folded-folded.ensures.steps ∙ sym p.steps;
      none_old = p.none_old;
    }
