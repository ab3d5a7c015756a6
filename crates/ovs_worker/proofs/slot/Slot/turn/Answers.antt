use Rattle.std.proofs.Common.{rules}
use Rattle.std.proofs.Math.Logic.{∥∥₁_map}
use Rattle.ovs_session.specs.Turning.{with_devices}
use Rattle.ovs_session.proofs.Moved.{moved_more}
use Rattle.ovs_worker.specs.Slots.{Turned}
use Rattle.ovs_worker.proofs.Ends.{end_after}
use Rattle.ovs_worker.proofs.slot.Slot.turn.Goals as goal

pub invariant_of-self : goal.invariant_of-self
invariant_of-self g c =
    let now = c.args.self.now in
    let new = c.turn.new in
    let V = g.V.Service in
    let turned : Turned V.answers V.tells V.refuses V.may_answer V.is_answered (V.is_told new.service) (V.may_tell new.service) (V.is_over new.service)
    (V.is_gone new.service) now.limits c.turn.result (with_devices now.session now.reader now.writer) (with_devices new.session new.reader new.writer) = search rules in
    record {
      lawful = ∥∥₁_map now.lawful (λ m. record {
        begun = m.begun;
        moved = moved_more V.answers V.tells _ _ _ _ _ _ _ _ _ _ m.moved c.turn.ensures.moved;
        end = end_after _ _ _ _ _ _ _ _ _ _ _ _ _ turned m.end;
      });
    }
