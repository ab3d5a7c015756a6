use Rattle.std.proofs.Common.{ap}
use Rattle.ovs_fold_script.specs.Closing.{end_text, is_whole_chain}
use Rattle.ovs_fold_script.proofs.Orders.{taken_alike}
use Rattle.ovs_fold_script.proofs.laws.last_lines_depend_on_the_set_alone.Goals as goal

pub returns-clause-lines : goal.returns-clause-lines
returns-clause-lines c schema ls ms set few same = ap end_text (taken_alike schema ls ms set few same)

pub returns-clause-whole : goal.returns-clause-whole
returns-clause-whole c schema ls ms set few same = ap is_whole_chain (taken_alike schema ls ms set few same)
