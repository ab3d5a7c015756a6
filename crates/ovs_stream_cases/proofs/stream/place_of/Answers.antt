use Rattle.std.proofs.Common.{◌≡◌, ◌≢◌, arith}
use Rattle.std.proofs.lemmas.Bool.Decides.{nat_tests}
use Rattle.ovs_stream_cases.proofs.Places.{not_behind, stands_behind}
use Rattle.ovs_stream_cases.proofs.stream.place_of.Goals as goal

pub returns-then-eq-2 : goal.returns-then-eq-2
returns-then-eq-2 c =
    let same : c.index-links-number.result.id ≡ c.args.asked = grind (arith, nat_tests, c.id.ensures.value, c.if-eq-2.ensures) in
    record { place = stands_behind c.args.links.now c.loop-number.number c.args.asked c.index-links-number.result c.loop-number-test.true c.index-links-number.is same }

pub loop-number-preserved : goal.loop-number-preserved
loop-number-preserved c =
    let other : c.index-links-number.result.id ≢ c.args.asked = grind (arith, nat_tests, c.id.ensures.value, c.if-eq-2.ensures) in
    not_behind c.args.links.now c.loop-number.number c.args.asked c.index-links-number.result c.loop-number-test.true c.index-links-number.is other c.loop-number.invariant
