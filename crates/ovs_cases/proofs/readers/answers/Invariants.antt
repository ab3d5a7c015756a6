use Rattle.ovs_links.specs.Steps.{folded_of}
use Rattle.ovs_reader.specs.Session.{MayBeShown}
use Rattle.ovs_cases.proofs.readers.answers.Given as goal

abbrev pub invariant-loop-one : goal.invariant-loop-one
invariant-loop-one l = MayBeShown l.session (folded_of l.store.schema l.store.folded)
