use Rattle.std.proofs.Common.{◌≡◌, sym, ap, ◌∙◌}
use Rattle.std.specs.Cmp.Lexicographic.{bytes_decides}
use Rattle.ovs_data.proofs.ColumnEquality.{column_decides}
use Rattle.ovs_types.proofs.schema.parts.NamedColumnSchemaPart.same.Goals as goal

pub returns-then-eq : goal.returns-then-eq
returns-then-eq c =
    let left = c.args.self.now in
    let right = c.args.other.now in
    let columns = column_decides left.column right.column in
    let names : left.name ≡ right.name = (bytes_decides left.name right.name).0 (sym c.eq.ensures ∙ c.if-eq.true) in
    record { same = (λ e. (let same = columns.0 (sym c.eq-then-eq.ensures ∙ e) in λ i. record { name = names i; column = same i }), λ e. c.eq-then-eq.ensures ∙ columns.1 (ap (λ n. n.column) e)) }
