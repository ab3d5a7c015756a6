use Rattle.std.proofs.Common.{refl}
use Rattle.ovs_recorded_source.specs.Steps.{begun}
use Rattle.ovs_recorded_source.proofs.recorded_source.RecordedSource.new.Goals as goal

pub named-book-requires-clause-first : goal.named-book-requires-clause-first
named-book-requires-clause-first g c = (begun g.N.SourceName.start, refl)
