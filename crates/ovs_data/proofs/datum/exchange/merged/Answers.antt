use Rattle.std.proofs.lemmas.Grind.{common_steps}
use Rattle.std.proofs.Common.{arith}
use Rattle.std.specs.Prelude.{not, ◌&&◌}
use Rattle.ovs_data.proofs.Ascends.{IsAscending-exchanged, AreExchanged-exchange}
use Rattle.ovs_data.proofs.Exchanges.{ends_left, ends_right, all_out}
use Rattle.ovs_data.proofs.datum.exchange.merged.Goals as goal
use Rattle.ovs_data.proofs.datum.exchange.merged.Goals.{in_default, in-len1-up+in_default-right}

-- the first loop ends where one of the lists does
pub loop-x-init : goal.loop-x-init
loop-x-init g c =
    let order = g.E.SortedEntry.order in
    let out = c.loop-left.out.items in
    let xs = c.loop-left.left.now in
    let ys = c.loop-left.right.now in
    elim c.if-left-lt1.branch [
      | in_default w ↦ ends_left order (λ x y. not c.args.same_too && g.E.SortedEntry.is_same x y) out xs ys _ w.in_default.len_below c.loop-left.invariant
      | in-len1-up+in_default-right w ↦ ends_right order (λ x y. not c.args.same_too && g.E.SortedEntry.is_same x y) out xs ys _ w.in_default-right.len_below c.loop-left.invariant
    ]

pub returns-clause-ascending : goal.returns-clause-ascending
returns-clause-ascending g c =
    IsAscending-exchanged g.E.SortedEntry.order g.met.E.SortedEntry.total (λ x y. not c.args.same_too && g.E.SortedEntry.is_same x y) c.args.old.now c.args.other.now c.loop-y.out.items c.requires.old c.requires.other
    (all_out g.E.SortedEntry.order (λ x y. not c.args.same_too && g.E.SortedEntry.is_same x y) c.loop-y.out.items c.loop-left.right.now _ c.loop-y.y-index c.loop-y-test.false c.loop-y.invariant)

pub returns-clause-exchange : goal.returns-clause-exchange
returns-clause-exchange g c =
    AreExchanged-exchange g.E.SortedEntry.order g.met.E.SortedEntry.total (λ x y. not c.args.same_too && g.E.SortedEntry.is_same x y) c.args.old.now c.args.other.now c.loop-y.out.items c.requires.old c.requires.other
    (all_out g.E.SortedEntry.order (λ x y. not c.args.same_too && g.E.SortedEntry.is_same x y) c.loop-y.out.items c.loop-left.right.now _ c.loop-y.y-index c.loop-y-test.false c.loop-y.invariant)

pub loop-left-preserved-in_ok-push-in-Equal : goal.loop-left-preserved-in_ok-push-in-Equal
loop-left-preserved-in_ok-push-in-Equal c = grind (arith, common_steps)

pub loop-left-preserved : goal.loop-left-preserved
loop-left-preserved c = grind (arith, common_steps)
