use Rattle.std.proofs.Common.{[], arith}
use Rattle.ovs_desk.specs.Runs.{no_request}
use Rattle.ovs_desk.proofs.LedgerOrder.{in_order}
use Rattle.ovs_desk.proofs.LedgerRuns.{rises, once, own, ended}
use Rattle.ovs_desk.proofs.laws.every_run_of_a_ledger.Goals as goal

pub returns : goal.returns
returns c = record {
  numbers = λ list end runs. rises no_request list end runs;
  up = λ list end runs. in_order no_request list end runs;
  once = λ list end runs. once no_request list end (omega arith) runs;
  own = λ list end runs. own [] no_request list end tt runs;
  ended = λ session before after end runs away. ended session no_request before after end runs away;
}
