use Rattle.ovs_wire.proofs.Over.{either}
use Rattle.ovs_wire.proofs.Through.{come_through, sent_frame, written_deep, written_long}
use Rattle.ovs_wire.proofs.message.laws.writing_laws.Goals as goal

pub returns : goal.returns
returns c = record {
  frame = λ most. sent_frame;
  too_deep = λ most. written_deep;
  too_long = λ most. written_long;
  either = λ most m bytes is deep long. either bytes is.balanced long;
  through = λ most. come_through;
}
