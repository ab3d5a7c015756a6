use Rattle.std.proofs.Common.{◌≡◌, ◌+◌, ◌++◌, ◌∷◌, [], ℕ, List, cond, length, ◌∙◌, ap, arith}
use Rattle.std.specs.Ordering.{nat_cmp}
use Rattle.std.specs.FinMap.{FinMap, remove}
use Rattle.ovs_links.specs.Held.{with_first}
use Rattle.ovs_links.specs.StepChains.{ArePlaces}
use Rattle.ovs_links.specs.declared.step.Step.{Step}
use Rattle.ovs_links.proofs.MapLemmas.{first_back}
use Rattle.ovs_links.proofs.StepLemmas.{places_push}
use Rattle.ovs_links.proofs.folded.Folded.add.Goals as goal

pushed : (s t : Step) (ss new : List Step) (places more : FinMap nat_cmp ℕ) (n : ℕ) → t ≡ s → new ≡ ss ++ t ∷ [] → more ≡ with_first places s.id n → ArePlaces ss places
    → n ≡ length ss + 1 → ArePlaces new more
pushed s t ss new places more n same items is are last = rw (items, same, is) (places_push ss s places n are last)

pub invariant_of-self-in-Ok : goal.invariant_of-self-in-Ok
invariant_of-self-in-Ok c =
    let s = c.self.inside in
    let kept = c.in_ok-reserve.ensures.items in
    let size = ap length kept in
    pushed c.args.step.now c.in_ok-copy.copy s.steps.items c.push_reserved.new.self.items s.places c.put_first.new.self (c.len.result + 1) c.in_ok-copy.ensures.value
    (c.push_reserved.ensures.items ∙ ap (λ (ss : List Step). ss ++ c.in_ok-copy.copy ∷ []) kept) c.in_ok-was_new.ensures.value c.self.invariant (omega (arith, size, c.len.ensures))

pub invariant_of-self-in-Err-1 : goal.invariant_of-self-in-Err-1
invariant_of-self-in-Err-1 c =
    let s = c.self.inside in
    let id = c.args.step.now.id in
    let back = c.take_back.ensures.value ∙ ap (λ (m : FinMap nat_cmp ℕ). cond c.in_ok-was_new.was_new (remove m id) m) c.in_ok-was_new.ensures.value
    ∙ first_back s.places id (c.len.result + 1) c.in_ok-was_new.was_new c.in_ok-was_new.ensures.added in
    rw (back, c.in_ok-reserve.ensures.items) c.self.invariant
