use Rattle.std.proofs.Common.{rules, ap, option_map}
use Rattle.ovs_types.proofs.schema.Schema.column.Goals as goal

pub returns-clause-reserved : goal.returns-clause-reserved
returns-clause-reserved c = λ reserved. ap (option_map (λ p. p.1)) (c.in_ok-column.ensures.reserved reserved)

pub returns-in_err-table-clause-found : goal.returns-in_err-table-clause-found
returns-in_err-table-clause-found c = search rules

pub returns-in_err-column-clause-found : goal.returns-in_err-column-clause-found
returns-in_err-column-clause-found c = search rules

pub returns-clause-found : goal.returns-clause-found
returns-clause-found c = search rules
