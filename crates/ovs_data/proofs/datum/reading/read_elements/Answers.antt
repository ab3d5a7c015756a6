use Rattle.std.proofs.Common.{rules}
use Rattle.ovs_data.proofs.datum.reading.read_elements.Goals as goal

pub returns-else-begins_with-2 : goal.returns-else-begins_with-2
returns-else-begins_with-2 c = search rules
