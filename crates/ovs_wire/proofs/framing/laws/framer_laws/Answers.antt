use Rattle.ovs_wire.proofs.Cuts.{follows, follows_none, follows_taken}
use Rattle.ovs_wire.proofs.Through.{calls_from_new, objects_come_first}
use Rattle.ovs_wire.proofs.framing.laws.framer_laws.Goals as goal

pub returns : goal.returns
returns c = record {
  new = λ most. follows_none;
  feeds = λ most. follows;
  takes = λ most. follows_taken;
  calls = λ most. calls_from_new;
  pieces = λ most texts calls later new now are is leads whole.
      let r = objects_come_first texts calls later new now are is leads whole in (r.others, r.whole, r.all);
}
