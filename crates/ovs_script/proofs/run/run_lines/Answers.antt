use Rattle.std.proofs.Common.{◌≡◌, ◌+◌, [], ap, sym, ◌∙◌, Ok, Err, true, false, arith, refl, Some, IsTrue}
use Rattle.std.proofs.lemmas.Result.{err_from_is_err_and}
use Rattle.ovs_script.specs.Lines.{TakesLine}
use Rattle.std.specs.Io.KnownBytes.{prepend_known}
use Rattle.ovs_script.proofs.Sent.{on_err}
use Rattle.ovs_script.proofs.Spent.{spent_by_reader, spent_by_writer, spent_then}
use Rattle.ovs_script.proofs.Way.{setting_out, answered, wrote, all_where_over, begun, begun_kept, begun_lost, stopped, still_on}
use Rattle.ovs_script.proofs.run.run_lines.Goals as goal
use Rattle.ovs_script.proofs.run.run_lines.Goals.{then-is_due+in_ok-send, else-is_due}

pub returns-then-is_over-clause-answers : goal.returns-then-is_over-clause-answers
returns-then-is_over-clause-answers g c =
    all_where_over g.S.Script.rules c.args.script.now _ _ _ c.args.pending.now c.loop-number.pending c.loop-number.script c.loop-number.number _
    c.loop-number.invariant.progress (sym c.is_over.ensures.value ∙ c.if-is_over.true)

pub returns-in_err-next_line-clause-begun : goal.returns-in_err-next_line-clause-begun
returns-in_err-next_line-clause-begun g c =
    on_err _ _ (begun g.S.Script.rules c.args.script.now _ _ _ c.args.pending.now c.loop-number.pending c.loop-number.script c.loop-number.number _ c.loop-number.invariant.progress)

pub returns-in_err-answer-clause-begun : goal.returns-in_err-answer-clause-begun
returns-in_err-answer-clause-begun g c =
    on_err _ _ (begun g.S.Script.rules c.args.script.now _ _ _ c.args.pending.now c.loop-number.pending c.loop-number.script c.loop-number.number _ c.loop-number.invariant.progress)

pub returns-in_err-window-clause-begun : goal.returns-in_err-window-clause-begun
returns-in_err-window-clause-begun g c =
    on_err _ _ (begun g.S.Script.rules c.args.script.now _ _ _ c.args.pending.now c.args.pending.now c.args.script.now 0 _
    (setting_out g.S.Script.rules c.args.script.now (g.R.Read.remaining c.args.reader.now.device) (g.W.Write.contents c.args.writer.now.device) c.args.pending.now [] refl))

pub returns-in_err-push-clause-begun : goal.returns-in_err-push-clause-begun
returns-in_err-push-clause-begun g c =
    let at = c.loop-number in
    let start = g.R.Read.remaining c.args.reader.now.device in
    let left = prepend_known at.window (g.R.Read.remaining at.reader.device) in
    let before = g.W.Write.contents c.args.writer.now.device in
    let now = g.W.Write.contents at.writer.device in
    let same = begun g.S.Script.rules c.args.script.now start before now c.args.pending.now at.pending at.script at.number left at.invariant.progress in
    on_err _ _ (begun_kept g.S.Script.rules c.args.script.now start before now c.args.pending.now at.pending c.push.new.self c.in_err-push.ensures.err same)

pub returns-in_err-send-clause-begun : goal.returns-in_err-send-clause-begun
returns-in_err-send-clause-begun g c =
    let rules = g.S.Script.rules in
    let at = c.loop-number in
    let start = g.R.Read.remaining c.args.reader.now.device in
    let left = prepend_known at.window (g.R.Read.remaining at.reader.device) in
    let new_left = prepend_known c.next_line.new.window (g.R.Read.remaining c.next_line.new.reader.device) in
    let before = g.W.Write.contents c.args.writer.now.device in
    let now = g.W.Write.contents at.writer.device in
    let new = g.W.Write.contents c.send.new.writer.device in
    let found : c.in_ok-next_line.field-0 ≡ true = (cc) in
    let took : TakesLine left new_left (Some c.next_line.new.line) = rw found at c.in_ok-next_line.ensures.line in
    let so_far = answered rules c.args.script.now start before now c.args.pending.now at.pending at.script at.number left new_left
    c.next_line.new.line _ c.take.new.self _ c.deref.result.now c.push.new.self at.invariant.progress took (sym c.is_over.ensures.value ∙ c.if-is_over.false)
    c.bytes.ensures.value c.in_ok-answer.ensures.answers c.deref.ensures c.in_ok-push.ensures.ok in
    on_err _ _ (begun_lost rules c.args.script.now start before now new c.args.pending.now c.push.new.self c.send.new.self c.take.new.self
    (at.number + 1) new_left so_far c.in_err-send.ensures.err c.send.ensures.empty)

pub loop-number-preserved : goal.loop-number-preserved
loop-number-preserved g c =
    let rules = g.S.Script.rules in
    let at = c.loop-number in
    let start = g.R.Read.remaining c.args.reader.now.device in
    let left = prepend_known at.window (g.R.Read.remaining at.reader.device) in
    let new_left = prepend_known c.next_line.new.window (g.R.Read.remaining c.next_line.new.reader.device) in
    let before = g.W.Write.contents c.args.writer.now.device in
    let now = g.W.Write.contents at.writer.device in
    let found : c.in_ok-next_line.field-0 ≡ true = (cc) in
    let took : TakesLine left new_left (Some c.next_line.new.line) = rw found at c.in_ok-next_line.ensures.line in
    let so_far = answered rules c.args.script.now start before now c.args.pending.now at.pending at.script at.number left new_left
    c.next_line.new.line _ c.take.new.self _ c.deref.result.now c.push.new.self at.invariant.progress took (sym c.is_over.ensures.value ∙ c.if-is_over.false)
    c.bytes.ensures.value c.in_ok-answer.ensures.answers c.deref.ensures c.in_ok-push.ensures.ok in
    let read_failures = c.in_ok-next_line.ensures.counted.failures ∙ at.invariant.read_failures in
    let read = c.next_line.new in
    let r = read.reader.calls in
    let spent = spent_then _ _ _ at.invariant.calls
    (spent_by_reader at.reader.calls at.writer.calls at.turns r read.turns c.in_ok-next_line.ensures.counted.calls) in
    let paid = c.in_ok-next_line.ensures.paid (ap Ok found) in
    let on : rules.is_over at.script ≡ false = sym c.is_over.ensures.value ∙ c.if-is_over.false in
    let unread = λ (over : IsTrue (rules.is_over c.args.script.now)). absurd (still_on rules c.args.script.now at.script over (at.invariant.unread over).0 on) in
    elim c.if-is_due.branch [
      | then-is_due+in_ok-send w ↦
          let new = g.W.Write.contents w.send.new.writer.device in
          record {
            progress = rw (w.writer-is, w.pending-is) (wrote rules c.args.script.now start before now new c.args.pending.now c.push.new.self w.send.new.self c.take.new.self
                (at.number + 1) new_left so_far w.in_ok-send.ensures.ok w.send.ensures.empty);
            calls = rw (w.writer-is, w.turns-is) (spent_then _ _ _ spent
                (spent_by_writer r at.writer.calls read.turns w.send.new.writer.calls w.send.new.turns w.in_ok-send.ensures.counted.calls));
            unread = unread;
            read_failures = read_failures;
            write_failures = rw w.writer-is (w.in_ok-send.ensures.counted.failures ∙ at.invariant.write_failures);
            paid = rw w.turns-is (omega (arith, paid, at.invariant.paid, w.in_ok-send.ensures.turns));
          }
      | else-is_due w ↦ record {
        progress = rw (w.writer-is, w.pending-is) so_far;
        calls = rw (w.writer-is, w.turns-is) spent;
        unread = unread;
        read_failures = read_failures;
        write_failures = rw w.writer-is at.invariant.write_failures;
        paid = rw w.turns-is (omega (arith, paid, at.invariant.paid));
      }
    ]

pub returns-clause-begun : goal.returns-clause-begun
returns-clause-begun g c =
    begun g.S.Script.rules c.args.script.now _ _ _ c.args.pending.now c.loop-number.pending c.loop-number.script c.loop-number.number _ c.loop-number.invariant.progress

pub returns-in_err-next_line-clause-said : goal.returns-in_err-next_line-clause-said
returns-in_err-next_line-clause-said g c =
    let at = c.loop-number in
    let left = prepend_known at.window (g.R.Read.remaining at.reader.device) in
    let left_now = g.R.Read.remaining c.next_line.new.reader.device in
    let p = err_from_is_err_and c.from_residual-in_err-next_line.result c.from_residual-in_err-next_line.ensures.1 in
    rw (p.1, p.2) (stopped g.S.Script.rules c.args.script.now (g.R.Read.remaining c.args.reader.now.device) (g.W.Write.contents c.args.writer.now.device)
    (g.W.Write.contents at.writer.device) c.args.pending.now at.pending at.script at.number left left_now c.in_err-next_line.field-0.0 at.invariant.progress
    (λ is. (c.in_err-next_line.ensures.lost (ap Err is)).1))
