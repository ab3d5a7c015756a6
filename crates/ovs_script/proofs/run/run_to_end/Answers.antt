use Rattle.ovs_wire.specs.Counted.{Counting}
use Rattle.ovs_script.specs.Texts.{SaysToAll, AreFirstAnswers, IsOutput, IsOutputSoFar, texts_of}
use Rattle.ovs_script.proofs.Sent.{on_err, err_map}
use Rattle.ovs_script.proofs.Output.{whole_behind, begun_behind, said_behind}
use Rattle.ovs_script.proofs.Both.{of_texts, all_are_first, closed, closed_so_far}
use Rattle.std.proofs.Common.{inl}
use Rattle.std.proofs.lemmas.Result.{IfOk-weaker}
use Rattle.ovs_script.proofs.run.run_to_end.Goals as goal

pub returns-in_err-run_texts-clause-begun : goal.returns-in_err-run_texts-clause-begun
returns-in_err-run_texts-clause-begun g c =
    let texts = texts_of (g.R.Read.remaining c.args.reader.now.device) (λ (m : Counting _). g.M.Read.remaining m.device) c.args.second.now in
    on_err _ _ (of_texts texts _ _ (λ t so_far. (so_far.0, inl so_far.1, so_far.2, so_far.3)) c.in_err-run_texts.ensures.begun)

pub returns-clause-whole : goal.returns-clause-whole
returns-clause-whole g c =
    let rules = g.S.Script.rules in
    let first = c.args.script.now in
    let last = c.run_texts.new.script in
    let texts = texts_of (g.R.Read.remaining c.args.reader.now.device) (λ (m : Counting _). g.M.Read.remaining m.device) c.args.second.now in
    let before = g.W.Write.contents c.args.writer.now.device in
    let now = g.W.Write.contents c.run_texts.new.writer.device in
    let new = g.W.Write.contents c.finish.new.writer.device in
    IfOk-weaker c.finish.result _ _ (λ is_content whole. whole_behind before now c.args.pending.now c.run_texts.new.pending texts new whole.0
    (λ t said. SaysToAll rules first t said last) (λ t output. IsOutput rules first t output is_content)
    (λ t said says. closed rules first t said last whole.0 is_content says whole.1) c.in_ok-run_texts.ensures.answers whole.2) c.finish.ensures.whole

pub returns-clause-begun : goal.returns-clause-begun
returns-clause-begun g c =
    let rules = g.S.Script.rules in
    let first = c.args.script.now in
    let last = c.run_texts.new.script in
    let texts = texts_of (g.R.Read.remaining c.args.reader.now.device) (λ (m : Counting _). g.M.Read.remaining m.device) c.args.second.now in
    let before = g.W.Write.contents c.args.writer.now.device in
    let now = g.W.Write.contents c.run_texts.new.writer.device in
    let new = g.W.Write.contents c.finish.new.writer.device in
    err_map c.finish.result _ _ (λ more. begun_behind before now c.args.pending.now c.run_texts.new.pending texts new c.finish.new.pending more.0
    (λ t said. SaysToAll rules first t said last) (IsOutputSoFar rules first)
    (λ t said says. closed_so_far rules first t said last more.0 says more.1) c.in_ok-run_texts.ensures.answers (more.2, more.3)) c.finish.ensures.begun

pub returns-clause-said : goal.returns-clause-said
returns-clause-said g c =
    let rules = g.S.Script.rules in
    let first = c.args.script.now in
    let last = c.run_texts.new.script in
    let texts = texts_of (g.R.Read.remaining c.args.reader.now.device) (λ (m : Counting _). g.M.Read.remaining m.device) c.args.second.now in
    let before = g.W.Write.contents c.args.writer.now.device in
    let now = g.W.Write.contents c.run_texts.new.writer.device in
    let new = g.W.Write.contents c.finish.new.writer.device in
    said_behind before now c.args.pending.now c.run_texts.new.pending texts c.finish.result new c.finish.new.pending (λ t said. SaysToAll rules first t said last) _
    (AreFirstAnswers rules first) c.finish.ensures.not_read c.finish.ensures.unwritten (λ t said says. all_are_first rules first t said last says)
    c.in_ok-run_texts.ensures.answers
