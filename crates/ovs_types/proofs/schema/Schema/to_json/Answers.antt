use Rattle.std.proofs.Common.{rules}
use Rattle.ovs_types.proofs.schema.Schema.to_json.Goals as goal

pub returns-clause-json : goal.returns-clause-json
returns-clause-json c = search rules

pub returns-clause-reads_back : goal.returns-clause-reads_back
returns-clause-reads_back c = search rules
