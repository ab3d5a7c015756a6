use Rattle.std.proofs.Common.{map}
use Rattle.serde_json.specs.View.{view}
use Rattle.ovs_upstream.specs.Requests.{CanBeAsked}
use Rattle.ovs_upstream.specs.Talk.{notice_said}
use Rattle.ovs_upstream.proofs.Asked.{no_request, notice_no_schema}
use Rattle.ovs_upstream.proofs.up_session.UpSession.hear_open.Goals as goal

pub returns-in-Notice-clause-asked : goal.returns-in-Notice-clause-asked
returns-in-Notice-clause-asked c =
    let method = c.as_str-in-Notice.result.now in
    let params = map view c.as_slice.result.now in
    no_request (CanBeAsked c.args.self.now.schema c.args.self.now.asked) c.args.self.now (notice_said method params) c.hear_notice.result (notice_no_schema method params) c.hear_notice.ensures.exact
