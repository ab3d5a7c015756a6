use Rattle.std.proofs.Common.{List, subst}
use Rattle.ovs_wire.specs.declared.message.Message.{Message}
use Rattle.ovs_upstream.specs.Resuming.{TellsCopy}
use Rattle.ovs_upstream.proofs.Cuts.{copy_cuts}
use Rattle.ovs_upstream.proofs.Streams.{heard_first}
use Rattle.ovs_upstream.proofs.laws.whole_copies_leave_commits_out.Goals as goal

pub returns : goal.returns
returns c = record {
  cut = copy_cuts;
  stream = λ known h start i j asked most said heard stream later calls new now rows below history le at tells of fresh leads whole hears.
      let first = heard_first most said heard stream later calls new now of fresh leads whole hears in
      copy_cuts known h start i j asked heard first.0 rows below history le at
      (subst (λ (ms : List Message). TellsCopy known.schema.description start h j ms) first.1 tells);
}
