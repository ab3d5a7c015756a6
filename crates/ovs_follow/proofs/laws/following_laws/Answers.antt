use Rattle.ovs_follow.proofs.Derived.{links_exist, sends_first, sends_all, tells_first}
use Rattle.ovs_follow.proofs.Passed.{runs_passed}
use Rattle.ovs_follow.proofs.laws.following_laws.Goals as goal

pub returns : goal.returns
returns c = record {
  first = λ began most limit bytes unread output written now links moved derived. sends_first began most limit bytes output written now links derived unread moved;
  all = λ began most limit bytes unread output written now links moved done end derived. sends_all began most limit bytes output written now links derived unread moved done end;
  told = λ began most limit bytes unread output written now none moved.
      let d = links_exist most began.up bytes in tells_first began most limit bytes output written now d.0 d.1 unread none moved;
  passed = runs_passed;
}
