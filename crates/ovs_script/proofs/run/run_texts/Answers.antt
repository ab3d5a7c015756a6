use Rattle.std.proofs.lemmas.Result.{err_from_is_err_and, IfErr-weaker}
use Rattle.ovs_wire.specs.Counted.{Counting}
use Rattle.ovs_script.proofs.Sent.{on_err, ok_map, err_map}
use Rattle.ovs_script.proofs.Both.{begun_input, said_input, begun_between, both_answered, both_begun, both_said}
use Rattle.ovs_script.proofs.run.run_texts.Goals as goal

pub returns-in_err-run_lines-clause-begun : goal.returns-in_err-run_lines-clause-begun
returns-in_err-run_lines-clause-begun g c =
    on_err _ _ (begun_input g.S.Script.rules c.args.script.now (g.R.Read.remaining c.args.reader.now.device) (g.W.Write.contents c.args.writer.now.device)
    (g.W.Write.contents c.run_lines.new.writer.device) c.args.pending.now c.run_lines.new.pending (λ (m : Counting _). g.M.Read.remaining m.device) c.args.second.now
    c.in_err-run_lines.ensures.begun)

pub returns-in_err-run_lines-clause-said : goal.returns-in_err-run_lines-clause-said
returns-in_err-run_lines-clause-said g c =
    let p = err_from_is_err_and c.from_residual.result c.from_residual.ensures.1 in
    rw (p.1, p.2) (said_input g.S.Script.rules c.args.script.now (g.R.Read.remaining c.args.reader.now.device) (g.W.Write.contents c.args.writer.now.device)
    (g.W.Write.contents c.run_lines.new.writer.device) c.args.pending.now c.run_lines.new.pending (λ (m : Counting _). g.M.Read.remaining m.device) c.args.second.now
    c.run_lines.new.script (g.R.Read.remaining c.run_lines.new.reader.device) c.in_err-run_lines.field-0.0 c.in_err-run_lines.ensures.said)

pub returns-in_err-begin_second-in-Some-clause-begun : goal.returns-in_err-begin_second-in-Some-clause-begun
returns-in_err-begin_second-in-Some-clause-begun g c =
    let rules = g.S.Script.rules in
    let start = g.R.Read.remaining c.args.reader.now.device in
    let second = g.M.Read.remaining c.in-Some.second.device in
    let before = g.W.Write.contents c.args.writer.now.device in
    let now = g.W.Write.contents c.run_lines.new.writer.device in
    rw c.in-Some.is (on_err _ _ (begun_between rules c.args.script.now start before now c.args.pending.now c.run_lines.new.pending second c.run_lines.new.script
    c.in_ok-run_lines.ensures.answers))

pub returns-in_ok-begin_second-in-Some-clause-answers : goal.returns-in_ok-begin_second-in-Some-clause-answers
returns-in_ok-begin_second-in-Some-clause-answers g c =
    let rules = g.S.Script.rules in
    let start = g.R.Read.remaining c.args.reader.now.device in
    let second = g.M.Read.remaining c.in-Some.second.device in
    let before = g.W.Write.contents c.args.writer.now.device in
    let now = g.W.Write.contents c.run_lines.new.writer.device in
    let new = g.W.Write.contents c.run_lines-in-Some.new.writer.device in
    rw c.in-Some.is (ok_map c.run_lines-in-Some.result _ _ (both_answered rules c.args.script.now start before now c.args.pending.now c.run_lines.new.pending second new
    c.run_lines-in-Some.new.pending c.run_lines.new.script c.begin_second.new.self c.in_ok-begin_second-in-Some.ensures.state c.in_ok-run_lines.ensures.answers
    c.run_lines-in-Some.new.script) c.run_lines-in-Some.ensures.answers)

pub returns-in_ok-begin_second-in-Some-clause-begun : goal.returns-in_ok-begin_second-in-Some-clause-begun
returns-in_ok-begin_second-in-Some-clause-begun g c =
    let rules = g.S.Script.rules in
    let start = g.R.Read.remaining c.args.reader.now.device in
    let second = g.M.Read.remaining c.in-Some.second.device in
    let before = g.W.Write.contents c.args.writer.now.device in
    let now = g.W.Write.contents c.run_lines.new.writer.device in
    let new = g.W.Write.contents c.run_lines-in-Some.new.writer.device in
    rw c.in-Some.is (err_map c.run_lines-in-Some.result _ _ (both_begun rules c.args.script.now start before now c.args.pending.now c.run_lines.new.pending second new
    c.run_lines-in-Some.new.pending c.run_lines.new.script c.begin_second.new.self c.in_ok-begin_second-in-Some.ensures.state c.in_ok-run_lines.ensures.answers)
    c.run_lines-in-Some.ensures.begun)

pub returns-in_ok-begin_second-in-Some-clause-said : goal.returns-in_ok-begin_second-in-Some-clause-said
returns-in_ok-begin_second-in-Some-clause-said g c =
    let rules = g.S.Script.rules in
    let start = g.R.Read.remaining c.args.reader.now.device in
    let second = g.M.Read.remaining c.in-Some.second.device in
    let before = g.W.Write.contents c.args.writer.now.device in
    let now = g.W.Write.contents c.run_lines.new.writer.device in
    let new = g.W.Write.contents c.run_lines-in-Some.new.writer.device in
    rw c.in-Some.is (IfErr-weaker c.run_lines-in-Some.result _ _ (λ fault more. both_said rules c.args.script.now start before now c.args.pending.now c.run_lines.new.pending second new
    c.run_lines-in-Some.new.pending c.run_lines.new.script c.begin_second.new.self c.in_ok-begin_second-in-Some.ensures.state c.in_ok-run_lines.ensures.answers
    c.run_lines-in-Some.new.script (g.R.Read.remaining c.run_lines.new.reader.device)
    (g.M.Read.remaining c.run_lines-in-Some.new.reader.device) fault more) c.run_lines-in-Some.ensures.said)
