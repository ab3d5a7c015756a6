use Rattle.std.proofs.Common.{◌≡◌, inr, true, false}
use Rattle.ovs_wire.specs.Counted.{Counting}
use Rattle.ovs_script.specs.Texts.{IsOutputSoFar, texts_of}
use Rattle.ovs_script.proofs.Sent.{all_begun}
use Rattle.ovs_script.proofs.Output.{gave_up}
use Rattle.ovs_script.proofs.Both.{of_texts}
use Rattle.ovs_script.proofs.run.run_script.Goals as goal

pub returns-in-Ok-true-clause-whole : goal.returns-in-Ok-true-clause-whole
returns-in-Ok-true-clause-whole g c =
    let is : c.in-Ok-true.field-0 ≡ true = (cc) in
    rw (is, c.new-pending.ensures.empty) at c.in-Ok-true.ensures.whole

pub returns-in-Ok-false-clause-whole : goal.returns-in-Ok-false-clause-whole
returns-in-Ok-false-clause-whole g c =
    let is : c.in-Ok-false.field-0 ≡ false = (cc) in
    rw (is, c.new-pending.ensures.empty) at c.in-Ok-false.ensures.whole

pub returns-in-Ok-true-clause-begun : goal.returns-in-Ok-true-clause-begun
returns-in-Ok-true-clause-begun g c =
    let texts = texts_of (g.R.Read.remaining c.args.reader.now.device) (λ (m : Counting _). g.M.Read.remaining m.device) c.args.second.now in
    of_texts texts _ _ (λ t all. (all.0, inr (c.in-Ok-true.field-0, all.1), all_begun _ _ _ all.2)) (rw c.new-pending.ensures.empty at c.in-Ok-true.ensures.whole)

pub returns-in-Ok-false-clause-begun : goal.returns-in-Ok-false-clause-begun
returns-in-Ok-false-clause-begun g c =
    let texts = texts_of (g.R.Read.remaining c.args.reader.now.device) (λ (m : Counting _). g.M.Read.remaining m.device) c.args.second.now in
    of_texts texts _ _ (λ t all. (all.0, inr (c.in-Ok-false.field-0, all.1), all_begun _ _ _ all.2)) (rw c.new-pending.ensures.empty at c.in-Ok-false.ensures.whole)

pub returns-clause-begun : goal.returns-clause-begun
returns-clause-begun g c =
    let texts = texts_of (g.R.Read.remaining c.args.reader.now.device) (λ (m : Counting _). g.M.Read.remaining m.device) c.args.second.now in
    let before = g.W.Write.contents c.args.writer.now.device in
    let now = g.W.Write.contents c.run_to_end.new.writer.device in
    let new = g.W.Write.contents c.give_up.new.writer.device in
    gave_up before now new c.run_to_end.new.pending texts (IsOutputSoFar g.S.Script.rules c.args.script.now)
    (rw c.new-pending.ensures.empty at c.in-Err.ensures.begun) c.give_up.ensures.begun
