use Rattle.std.proofs.Common.{rules, ◌≡◌, ◌∙◌, sym, ap, subst, ◌++◌, ◌∷◌, [], map, option_to_list}
use Rattle.std.proofs.Math.Logic.{∥∥₁_map}
use Rattle.std.specs.List.{AllByRecursion}
use Rattle.ovs_worker.specs.Slots.{EndsSo}
use Rattle.ovs_worker.specs.Totals.{totals_with, totals_of}
use Rattle.ovs_worker.proofs.Leaving.{one_more, all_more, is_back, found_holds}
use Rattle.ovs_worker.proofs.Sums.{totals_more}
use Rattle.ovs_worker.proofs.event_loop.EventLoop.end.Goals as goal

pub invariant_of-self-clause-gave_back : goal.invariant_of-self-clause-gave_back
invariant_of-self-clause-gave_back g c =
    let now = c.args.self.now in
    let served = now.served in
    let back = is_back (λ slot. (slot.read_from.value, slot.write_to.value)) (g.D.Poller.out now.poller c.args.key) _ c.in-Some.slot (now.agree c.args.key)
    (sym c.leave.ensures.value ∙ c.in-Some.is) in
    c.left.ensures.back
    ∙ ap (λ l. l ++ option_to_list (g.D.Poller.out now.poller c.args.key)) now.gave_back
    ∙ ap (λ l. map (λ s. (s.slot.read_from.value, s.slot.write_to.value)) served ++ l) (back ∙ ap (λ slot. (slot.read_from.value, slot.write_to.value) ∷ []) (sym c.of.ensures))
    ∙ sym (one_more (λ s. (s.slot.read_from.value, s.slot.write_to.value)) served (record { slot = c.of.result.value; ended = c.args.ended }))
    ∙ ap (λ all. map (λ s. (s.slot.read_from.value, s.slot.write_to.value)) all) (sym c.push_as.ensures.pushed)

pub invariant_of-self-clause-adds_up : goal.invariant_of-self-clause-adds_up
invariant_of-self-clause-adds_up g c =
    let now = c.args.self.now in
    let before = map (λ s. s.slot.session.counts) now.served in
    let counts : c.counts.result ≡ c.in-Some.slot.session.counts = search rules in
    c.add.ensures.value ∙ ap (λ totals. totals_with totals c.counts.result) now.adds_up ∙ ap (λ more. totals_with (totals_of before) more) counts
    ∙ sym (totals_more before c.in-Some.slot.session.counts)
    ∙ ap (λ slot. totals_of (before ++ slot.session.counts ∷ [])) (sym c.of.ensures)
    ∙ ap totals_of (sym (one_more (λ s. s.slot.session.counts) now.served (record { slot = c.of.result.value; ended = c.args.ended })))
    ∙ ap (λ all. totals_of (map (λ s. s.slot.session.counts) all)) (sym c.push_as.ensures.pushed)

pub invariant_of-self-clause-told : goal.invariant_of-self-clause-told
invariant_of-self-clause-told g c =
    let ended = found_holds (λ slot. EndsSo c.args.ended slot.session.ended) _ c.in-Some.slot (sym c.leave.ensures.value ∙ c.in-Some.is) c.requires.ended in
    ∥∥₁_map c.args.self.now.told (λ all. subst (λ l. AllByRecursion (λ s. EndsSo s.ended s.slot.session.ended) l) (sym c.push_as.ensures.pushed)
    (all_more (λ s. EndsSo s.ended s.slot.session.ended) c.args.self.now.served (record { slot = c.of.result.value; ended = c.args.ended }) all
    (subst (λ slot. EndsSo c.args.ended slot.session.ended) (sym c.of.ensures) ended)))
