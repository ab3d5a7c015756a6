use Rattle.std.proofs.Common.{rules}
use Rattle.ovs_fold_script.proofs.stores.TwoStores.answer_line.Goals as goal

pub returns-in_err-with_m-clause-err : goal.returns-in_err-with_m-clause-err
returns-in_err-with_m-clause-err c = search rules

pub returns-clause-text : goal.returns-clause-text
returns-clause-text c = search rules

pub returns-clause-refused : goal.returns-clause-refused
returns-clause-refused c = search rules

pub returns-clause-after : goal.returns-clause-after
returns-clause-after c = search rules
