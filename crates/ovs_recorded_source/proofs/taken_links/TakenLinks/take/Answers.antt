use Rattle.std.proofs.Common.{◌≡◌, ◌∙◌, ℕ, ◌+◌, ◌-◌, ◌^◌, ◌≤◌, ◌++◌, ◌∷◌, [], List, length, length-append, arith, ap, sym}
use Rattle.ovs_links.specs.Store.{tables_of}
use Rattle.ovs_links.specs.declared.link.Link.{Link}
use Rattle.ovs_recorded_source.specs.Taking.{AreTaken, links_taken, taken_count}
use Rattle.ovs_recorded_source.specs.declared.step.SourceStep.{SourceStep}
use Rattle.ovs_recorded_source.proofs.Taking.{are_taken, one_taken}
use Rattle.ovs_recorded_source.proofs.taken_links.TakenLinks.take.Goals as goal

pub invariant_of-self : goal.invariant_of-self
invariant_of-self g c =
    let start = g.N.SourceName.start in
    let n : ℕ = c.self.inside.number in
    let known = c.again-known.result in
    let now = c.next_link.new.known in
    let is_known : n ≡ length (links_taken known) = c.self.invariant.0 ∙ ap (λ (k : List SourceStep). length (links_taken k)) (sym c.again-known.ensures.same) in
    let room : n + 1 ≤ 2 ^ 64 - 1 = omega (arith, c.in_ok-number.ensures) in
    let next : c.in_ok-number.number ≡ n + 1 = omega (arith, c.in_ok-number.ensures) in
    let count : taken_count c.args.desk.now.steps ≡ n = sym c.taken.ensures.value ∙ c.if-taken-self.false in
    let more : links_taken now ≡ links_taken known ++ c.in_ok-link.link ∷ [] =
    one_taken start known now c.args.desk.now c.next_link.new.self c.in_ok-link.link c.in_ok-link.ensures.taken c.in_ok-link.ensures.ends c.in_ok-link.ensures.told n is_known room count in
    let longer : length (links_taken now) ≡ length (links_taken known) + 1 = ap length more ∙ length-append (links_taken known) (c.in_ok-link.link ∷ []) in (
      omega arith,
      are_taken start known now c.args.desk.now c.next_link.new.self c.in_ok-link.link c.in_ok-link.ensures.taken c.in_ok-link.ensures.ends c.in_ok-link.ensures.told (tables_of start.source) c.in_ok-link.ensures.first,
    )

pub returns-clause-all : goal.returns-clause-all
returns-clause-all g c =
    let start = g.N.SourceName.start in
    are_taken start c.again-known.result c.next_link.new.known c.args.desk.now c.next_link.new.self c.in_ok-link.link c.in_ok-link.ensures.taken c.in_ok-link.ensures.ends c.in_ok-link.ensures.told (tables_of start.source) c.in_ok-link.ensures.first
