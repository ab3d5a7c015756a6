use Rattle.std.proofs.Common.{subst, sym}
use Rattle.std.specs.Prelude.{IfSome}
use Rattle.ovs_follow.specs.Faults.{IsFaultOf}
use Rattle.ovs_follow.proofs.Faults.{fault_is_heard}
use Rattle.ovs_follow.proofs.hearing.fault_of_message.Goals as goal

pub returns : goal.returns
returns c = record {
  fault = λ text says.
      subst (λ fault. IfSome fault (IsFaultOf c.args.up.now text)) (sym c.fault_of_heard.ensures.value)
      (fault_is_heard c.args.up.now text c.args.message c.hear-heard.result says c.hear-heard.ensures.exact);
}
