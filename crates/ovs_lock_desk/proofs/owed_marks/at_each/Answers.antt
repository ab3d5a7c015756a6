use Rattle.std.proofs.Common.{◌≡◌, ◌∷◌, subst, sym, rules}
use Rattle.ovs_lock_desk.specs.OwedMarks.{AreOthersMarked}
use Rattle.ovs_lock_desk.proofs.Names.{named_at}
use Rattle.ovs_lock_desk.proofs.OwedMarks.{others_marked, one_at}
use Rattle.ovs_lock_desk.proofs.Stepping.{Stepping, stepping_first, stepping_next, has_stepped}
use Rattle.ovs_lock_desk.proofs.owed_marks.at_each.Goals as goal

pub loop-name-init : goal.loop-name-init
loop-name-init c =
    let iter : c.into_iter-name-iterator.result ≡ c.args.names.now.entries = search rules in (
      subst (λ names. Stepping c.args.event c.args.table.now names c.args.table.now) (sym iter)
          (stepping_first c.args.event c.args.table.now c.args.names.now.entries c.iter-name-items.ensures.ordered c.requires.table c.requires.others),
      c.requires.by_one,
      c.requires.named,
      c.requires.marked,
    )

pub mark_near-requires : goal.mark_near-requires
mark_near-requires c =
    let name = c.in-Some.name.now in
    let old = c.loop-name.table in
    let new = c.at.new.self in
    let ascend = c.loop-name.invariant.0.table.ascend in
    record {
      named = named_at name c.args.event old new c.loop-name.sessions ascend c.loop-name.invariant.2 c.at.ensures.after;
      marked =
          subst (λ near. AreOthersMarked near name new c.loop-name.sessions) (sym c.of-near.ensures.value)
          (others_marked name c.args.event old new c.loop-name.sessions ascend c.at.ensures.table.ascend (c.loop-name.invariant.1 name) c.loop-name.invariant.3 c.at.ensures.after);
    }

pub loop-name-preserved : goal.loop-name-preserved
loop-name-preserved c =
    let name = c.in-Some.name.now in
    let mark = c.in-Some._mark.now in
    let step : c.loop-name.name-iterator ≡ (name, mark) ∷ c.next.new.self = search rules in (
      stepping_next c.args.event c.args.table.now name mark c.loop-name.name-iterator c.next.new.self c.loop-name.table c.at.new.self step c.loop-name.invariant.0 c.at.ensures.after c.at.ensures.table,
      one_at name c.args.event c.loop-name.table c.at.new.self c.loop-name.invariant.0.table.ascend c.loop-name.invariant.1 c.at.ensures.after,
      c.mark_near.ensures.named,
      c.mark_near.ensures.marked,
    )

pub returns-clause-after : goal.returns-clause-after
returns-clause-after c =
    has_stepped c.args.event c.args.table.now c.loop-name.table c.requires.table
    (subst (λ names. Stepping c.args.event c.args.table.now names c.loop-name.table) c.in-None.ensures.steps.0 c.loop-name.invariant.0)

pub returns-clause-table : goal.returns-clause-table
returns-clause-table c = c.loop-name.invariant.0.table

pub returns-clause-named : goal.returns-clause-named
returns-clause-named c = c.loop-name.invariant.2

pub returns-clause-marked : goal.returns-clause-marked
returns-clause-marked c = c.loop-name.invariant.3
