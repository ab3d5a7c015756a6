use Rattle.std.proofs.Common.{◌∙◌, take, arith}
use Rattle.std.proofs.lemmas.Grind.{common_steps}
use Rattle.std.proofs.KnownBytes.{Appends-kept}
use Rattle.ovs_script.proofs.Spent.{spent_then}
use Rattle.ovs_script.proofs.Sent.{on_err, begun, sent_more}
use Rattle.ovs_script.proofs.sending.send.Goals as goal

pub returns-in_err-at-clause-err : goal.returns-in_err-at-clause-err
returns-in_err-at-clause-err g c =
    let contents = g.W.Write.contents in
    let at = c.loop-at in
    on_err _ _ (begun _ _ c.args.text.now at.at
    (Appends-kept (contents c.args.writer.now.device) (contents at.writer.device) (contents c.write_once.new.writer.device) (take at.at c.args.text.now)
    at.invariant.sent c.in_err-at.ensures.bytes))

pub loop-at-preserved : goal.loop-at-preserved
loop-at-preserved g c =
    let contents = g.W.Write.contents in
    let at = c.loop-at in
    record {
      within = grind (arith, common_steps, c.in_ok-at.ensures.bound);
      sent = sent_more (contents c.args.writer.now.device) (contents at.writer.device) (contents c.write_once.new.writer.device) c.args.text.now
          at.at c.in_ok-at.field-0 at.invariant.within at.invariant.sent c.in_ok-at.ensures.bytes;
      calls = spent_then _ _ _ at.invariant.calls c.in_ok-at.ensures.counted.calls;
      turns = omega (arith, c.in_ok-at.ensures.turns, at.invariant.turns);
      failures = c.in_ok-at.ensures.counted.failures ∙ at.invariant.failures;
    }
