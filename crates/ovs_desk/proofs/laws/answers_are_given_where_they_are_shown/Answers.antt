use Rattle.ovs_desk.specs.Runs.{no_request}
use Rattle.ovs_desk.proofs.Shown.{without_waits, all_shown}
use Rattle.ovs_desk.proofs.laws.answers_are_given_where_they_are_shown.Goals as goal

pub returns : goal.returns
returns c = record {
  shown = λ list end runs. all_shown no_request list end runs;
  run = λ list end runs. without_waits no_request list end runs;
}
