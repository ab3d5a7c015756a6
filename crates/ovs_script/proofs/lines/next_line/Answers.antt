use Rattle.std.proofs.Common.{◌≡◌, ◌∙◌, ap, Ok, true, false, arith}
use Rattle.std.specs.Io.KnownBytes.{prepend_known}
use Rattle.ovs_script.proofs.Spent.{spent_then}
use Rattle.ovs_script.proofs.Taking.{read_on, took_line, took_last, lost_part}
use Rattle.ovs_script.proofs.lines.next_line.Goals as goal

pub returns-then-branch-clause-line : goal.returns-then-branch-clause-line
returns-then-branch-clause-line g c =
    let taken = c.loop-window.invariant.part in
    let ends : c.in_ok-take_part.field-0 ≡ true = (cc) in
    let part = c.in_ok-take_part.ensures.part in
    took_line _ _ c.loop-window.window c.take_part.new.window taken.so_far part.0 c.take_part.new.line taken.unbroken part.1 taken.consumed (rw ends at part.2)
    (part.3 taken.so_far taken.is)

pub returns-then-not-branch-clause-line : goal.returns-then-not-branch-clause-line
returns-then-not-branch-clause-line g c =
    let remaining = g.R.Read.remaining in
    let goes_on : c.in_ok-take_part.field-0 ≡ false = (cc) in
    let no_more : c.in_ok-fill.field-0 ≡ false = (cc) in
    let part = c.in_ok-take_part.ensures.part in
    let end = c.in_ok-fill.ensures.end (ap Ok no_more) in
    let taken = read_on (prepend_known c.args.window.now (remaining c.args.reader.now.device)) (remaining c.loop-window.reader.device)
    (prepend_known c.fill.new.self (remaining c.fill.new.reader.device)) c.loop-window.window c.take_part.new.window c.loop-window.line c.take_part.new.line part.0
    c.loop-window.invariant.part part.1 (rw goes_on at part.2) part.3 (c.in_ok-take_part.ensures.all (ap Ok goes_on)) c.in_ok-fill.ensures.bytes in
    rw c.is_empty.ensures.value (took_last _ _ c.fill.new.self taken.so_far c.take_part.new.line taken.unbroken taken.consumed end.0 end.1 taken.is)

pub loop-window-preserved : goal.loop-window-preserved
loop-window-preserved g c =
    let remaining = g.R.Read.remaining in
    let goes_on : c.in_ok-take_part.field-0 ≡ false = (cc) in
    let part = c.in_ok-take_part.ensures.part in
    record {
      part = read_on (prepend_known c.args.window.now (remaining c.args.reader.now.device)) (remaining c.loop-window.reader.device)
          (prepend_known c.fill.new.self (remaining c.fill.new.reader.device)) c.loop-window.window c.take_part.new.window c.loop-window.line c.take_part.new.line part.0
          c.loop-window.invariant.part part.1 (rw goes_on at part.2) part.3 (c.in_ok-take_part.ensures.all (ap Ok goes_on)) c.in_ok-fill.ensures.bytes;
      calls = spent_then _ _ _ c.loop-window.invariant.calls c.in_ok-fill.ensures.counted.calls;
      failures = c.in_ok-fill.ensures.counted.failures ∙ c.loop-window.invariant.failures;
      paid = omega (arith, c.in_ok-fill.ensures.turn, c.in_ok-fill.ensures.room, c.loop-window.invariant.paid);
    }

pub returns-in_err-fill-clause-lost : goal.returns-in_err-fill-clause-lost
returns-in_err-fill-clause-lost g c fault =
    let remaining = g.R.Read.remaining in
    let goes_on : c.in_ok-take_part.field-0 ≡ false = (cc) in
    let part = c.in_ok-take_part.ensures.part in
    let none = c.in_err-fill.ensures.none in (
      none.0,
      lost_part (prepend_known c.args.window.now (remaining c.args.reader.now.device)) (remaining c.loop-window.reader.device) (remaining c.fill.new.reader.device)
          c.loop-window.window c.take_part.new.window c.loop-window.line c.take_part.new.line part.0
          c.loop-window.invariant.part part.1 (rw goes_on at part.2) part.3 (c.in_ok-take_part.ensures.all (ap Ok goes_on)) none.1,
    )
