use Rattle.std.proofs.Common.{◌∙◌, sym, ap, subst, option_map, map}
use Rattle.std.specs.List.{AllByRecursion}
use Rattle.ovs_worker.specs.Slots.{EndsSo}
use Rattle.ovs_worker.specs.Totals.{totals_of}
use Rattle.ovs_worker.proofs.event_loop.EventLoop.new.Goals as goal

pub invariant_of-result : goal.invariant_of-result
invariant_of-result g c = record {
  agree = λ key. c.requires.none key ∙ sym (ap (λ s. option_map (λ slot. (slot.read_from.value, slot.write_to.value)) s) (c.new.ensures.empty key));
  gave_back = c.requires.none_back ∙ ap (λ all. map (λ s. (s.slot.read_from.value, s.slot.write_to.value)) all) (sym c.new-4.ensures.none);
  adds_up = c.new-3.ensures.value ∙ ap (λ all. totals_of (map (λ s. s.slot.session.counts) all)) (sym c.new-4.ensures.none);
  told = ∣ subst (λ all. AllByRecursion (λ s. EndsSo s.ended s.slot.session.ended) all) (sym c.new-4.ensures.none) tt ∣₁;
}
