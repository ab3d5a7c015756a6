use Rattle.std.proofs.Common.{◌≡◌, ◌∙◌, true, ap}
use Rattle.ovs_data.specs.Column.{may_count}
use Rattle.ovs_data.specs.Admitting.{is_ordered}
use Rattle.ovs_data.proofs.Admitting.{in_order_it, admits_value, datum_decides}
use Rattle.ovs_data.proofs.column.Column.admits.Goals as goal

pub returns-then-may_count-clause-value : goal.returns-then-may_count-clause-value
returns-then-may_count-clause-value c =
    let d = c.args.datum.now in
    let ordered : is_ordered d ≡ true = in_order_it d c.atoms.result.now c.pairs.result.now c.atoms.ensures.value c.pairs.ensures.value c.atoms.ensures.ascending c.pairs.ensures.ascending in
    admits_value c.args.self.now d c.may_count.result c.has_kinds.result ordered (c.may_count.ensures.may ∙ ap (may_count c.args.self.now) c.len.ensures.value) c.if-may_count.true c.has_kinds.ensures.value

pub returns-then-may_count-clause-decides : goal.returns-then-may_count-clause-decides
returns-then-may_count-clause-decides c =
    let d = c.args.datum.now in
    let ordered : is_ordered d ≡ true = in_order_it d c.atoms.result.now c.pairs.result.now c.atoms.ensures.value c.pairs.ensures.value c.atoms.ensures.ascending c.pairs.ensures.ascending in
    datum_decides c.has_kinds.result c.args.self.now d
    (admits_value c.args.self.now d c.may_count.result c.has_kinds.result ordered (c.may_count.ensures.may ∙ ap (may_count c.args.self.now) c.len.ensures.value) c.if-may_count.true c.has_kinds.ensures.value)
