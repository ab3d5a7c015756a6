use Rattle.std.proofs.Common.{rules}
use Rattle.ovs_data.proofs.Defaults.{default_is_kept}
use Rattle.ovs_data.proofs.column.Column.default_datum.Goals as goal

pub returns-else-self-clause-kept : goal.returns-else-self-clause-kept
returns-else-self-clause-kept c = default_is_kept c.args.self.now c.one_default.result c.if-self.false c.one_default.ensures.value

pub returns-then-self-clause-empty : goal.returns-then-self-clause-empty
returns-then-self-clause-empty c = search rules
