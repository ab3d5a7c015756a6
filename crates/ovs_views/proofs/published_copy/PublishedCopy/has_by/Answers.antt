use Rattle.std.proofs.Common.{◌≡◌, ◌∙◌, false, sym, ap, arith}
use Rattle.std.proofs.lemmas.Bool.{lt-leb}
use Rattle.std.specs.Prelude.{nat_le}
use Rattle.ovs_links.specs.Absorbing.{folded_by, last_chain}
use Rattle.ovs_links.specs.Steps.{FoldedValue}
use Rattle.ovs_links.specs.StepChains.{position_in, start_at, start_of_steps}
use Rattle.ovs_views.proofs.Known.{is_within, known_by}
use Rattle.ovs_views.proofs.published_copy.PublishedCopy.has_by.Goals as goal

pub returns-in-Some : goal.returns-in-Some
returns-in-Some g c =
    let folded = c.self.invariant ∙ ap (folded_by g.K.NodeName.schema) c.self.view_is in
    let begins = c.start.ensures.value ∙ ap start_at folded in
    let past = c.if-from.false in let at = c.from.ensures in let from = c.from-2.ensures in
    let behind : nat_le c.args.id (start_of_steps (last_chain c.args.self.now)) ≡ false = lt-leb c.args.id (start_of_steps (last_chain c.args.self.now)) (omega (arith, begins, past, at, from)) in
    let found = sym c.in-Some.is ∙ c.position_of.ensures.value ∙ ap (λ (f : FoldedValue). position_in f c.args.id) folded in
    let known = known_by g.K.NodeName.schema c.args.known.now c.args.self.now c.args.id c.in_ok-of_chain.of_chain c.in_ok-of_chain.ensures.value behind in
    record { value = ap (is_within c.in_ok-of_chain.of_chain) found ∙ known }

pub returns-in-None : goal.returns-in-None
returns-in-None g c =
    let folded = c.self.invariant ∙ ap (folded_by g.K.NodeName.schema) c.self.view_is in
    let begins = c.start.ensures.value ∙ ap start_at folded in
    let past = c.if-from.false in let at = c.from.ensures in let from = c.from-2.ensures in
    let behind : nat_le c.args.id (start_of_steps (last_chain c.args.self.now)) ≡ false = lt-leb c.args.id (start_of_steps (last_chain c.args.self.now)) (omega (arith, begins, past, at, from)) in
    let found = sym c.in-None.is ∙ c.position_of.ensures.value ∙ ap (λ (f : FoldedValue). position_in f c.args.id) folded in
    let known = known_by g.K.NodeName.schema c.args.known.now c.args.self.now c.args.id c.in_ok-of_chain.of_chain c.in_ok-of_chain.ensures.value behind in
    record { value = ap (is_within c.in_ok-of_chain.of_chain) found ∙ known }
