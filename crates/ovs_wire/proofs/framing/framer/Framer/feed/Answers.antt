use Rattle.std.proofs.Common.{drop, ap, sym, ◌∙◌}
use Rattle.ovs_wire.specs.Framing.{framing, ending_of}
use Rattle.ovs_wire.specs.Spans.{messages}
use Rattle.ovs_wire.proofs.Spans.{tail_moved, feeds_on}
use Rattle.ovs_wire.proofs.framing.framer.Framer.feed.Goals as goal

pub invariant_of-self-2 : goal.invariant_of-self-2
invariant_of-self-2 c =
    let f = c.self.inside in
    let s = c.in-Ok.scanned in
    tail_moved c.deref.result.now _ f.waiting.items _ s.found.items f.taken f.tail.end s.tail c.deref.ensures.value
    c.self.invariant.1 c.in_default-queue.ensures.ok c.in-Ok.ensures.tail c.in-Ok.ensures.end

pub returns-clause-fed : goal.returns-clause-fed
returns-clause-fed c = λ _.
    let f = c.self.inside in
    let s = c.in-Ok.scanned in
    let was = sym c.make_room.ensures.value ∙ sym c.self.view_is
    ∙ ap (λ fault. framing f.limit (messages f.waiting.items (drop f.taken f.buffer.items))
    (ending_of fault (drop f.tail.start f.buffer.items))) c.in_default.is in
    feeds_on c.args.self.now f.buffer.items c.args.piece.now c.deref.result.now _ f.taken f.waiting.items _ s.found.items
    f.tail s.tail s.fault c.self.invariant.0 c.self.invariant.1 was c.in_ok-extend_from_slice.ensures.items c.deref.ensures.value
    c.in_default-queue.ensures.ok c.in-Ok.ensures.frames
