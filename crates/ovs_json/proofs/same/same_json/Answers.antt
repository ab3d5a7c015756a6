use Rattle.serde_json.specs.View.{view}
use Rattle.ovs_json.specs.JsonCode.{json_code}
use Rattle.ovs_json.proofs.SameLemmas.{same_answer}
use Rattle.ovs_json.proofs.same.same_json.Goals as goal

pub returns-clause-value : goal.returns-clause-value
returns-clause-value c =
    same_answer json_code (view c.args.left.now) (view c.args.right.now) c.same_value.result c.same_value.ensures.same
