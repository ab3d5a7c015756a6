use Rattle.std.proofs.Common.{ap, refl, ◌+◌, arith, ◌∙◌}
use Rattle.ovs_wire.proofs.NextByte.{depth_now}
use Rattle.ovs_wire.proofs.Spans.{scans_space, scans_more, scans_whole, scans_fault, moved}
use Rattle.ovs_wire.proofs.framing.scan.scan.Goals as goal
use Rattle.ovs_wire.proofs.framing.scan.scan.Goals.{then-place-eq0+in_ok-push_back, else-place-eq0}

pub loop-i-preserved-then-is_space : goal.loop-i-preserved-then-is_space
loop-i-preserved-then-is_space c = scans_space c.args.bytes.now c.args.tail c.loop-i.i c.loop-i.found.items c.loop-i.end
    c.loop-i.start c.loop-i.place c.loop-i.invariant c.loop-i-test.true
    (omega (arith, c.loop-i.invariant.stands.within, c.if-len-eq0.true)) (c.is_space.ensures.value.0 c.if-is_space.true)

pub go_on-requires-clause-nests : goal.go_on-requires-clause-nests
go_on-requires-clause-nests c = depth_now c.args.bytes.now _ c.loop-i.i c.loop-i.start _ c.loop-i.place c.loop-i.invariant.stands

pub returns-in-Err-clause-frames : goal.returns-in-Err-clause-frames
returns-in-Err-clause-frames c = scans_fault c.args.bytes.now c.args.tail c.loop-i.i c.loop-i.found.items c.loop-i.end
    c.loop-i.start c.loop-i.place c.in-Err.fault c.loop-i.invariant c.loop-i-test.true c.in-Err.ensures.fault

pub loop-i-preserved : goal.loop-i-preserved
loop-i-preserved c =
    let bytes = c.args.bytes.now in
    let tail = c.args.tail in
    let l = c.loop-i in
    let q = c.in-Ok.next in
    let ok = c.in-Ok.ensures in
    elim c.if-place-eq0.branch [
      | then-place-eq0+in_ok-push_back w ↦ moved bytes tail (l.i + 1) _ _ _ _ _ _ _ _
          (scans_whole bytes tail l.i l.found.items l.end l.start l.place q _ l.invariant c.loop-i-test.true ok.opens ok.place
          (omega arith) ok.fits refl)
          (ap (λ d. d.items) w.found-is ∙ w.in_ok-push_back.ensures.items) w.end-is w.start-is
          (w.place-is ∙ w.start-place.ensures.value)
      | else-place-eq0 w ↦ moved bytes tail (l.i + 1) _ _ _ _ _ _ _ _
          (scans_more bytes tail l.i l.found.items l.end l.start l.place q l.invariant c.loop-i-test.true ok.opens ok.place
          (omega arith) ok.nests ok.fits)
          (ap (λ d. d.items) w.found-is) w.end-is w.start-is w.place-is
    ]
