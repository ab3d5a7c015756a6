use Rattle.std.proofs.Common.{rules}
use Rattle.ovs_data.proofs.datum.writing.datum_json.Goals as goal

pub returns-in_ok-items-in-Map-clause-value : goal.returns-in_ok-items-in-Map-clause-value
returns-in_ok-items-in-Map-clause-value c = search rules

pub returns-in_ok-items-in-Map-clause-spelled : goal.returns-in_ok-items-in-Map-clause-spelled
returns-in_ok-items-in-Map-clause-spelled c = search rules

pub returns-in_ok-items-in-Set-clause-value : goal.returns-in_ok-items-in-Set-clause-value
returns-in_ok-items-in-Set-clause-value c = search rules

pub returns-in_ok-items-in-Set-clause-spelled : goal.returns-in_ok-items-in-Set-clause-spelled
returns-in_ok-items-in-Set-clause-spelled c = search rules
