use Rattle.ovs_data.proofs.RoundTrips as law
use Rattle.ovs_data.proofs.datum.writing.what_is_written_reads_back.Goals as goal

pub returns : goal.returns
returns c = record { law = law.what_is_written_reads_back }
