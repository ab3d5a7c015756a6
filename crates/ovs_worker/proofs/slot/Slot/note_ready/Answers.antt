use Rattle.std.proofs.Common.{◌≡◌, ap, sym, subst}
use Rattle.std.proofs.Math.Logic.{∥∥₁_prop}
use Rattle.ovs_worker.proofs.slot.Slot.note_ready.Goals as goal

pub returns : goal.returns
returns g c =
    let s = c.args.self.now in
    record {
      same = subst
          (λ (x : _). (l : _) → record { session = x; reader = s.reader; writer = s.writer; limits = s.limits; began = s.began; read_from = s.read_from; write_to = s.write_to; lawful = l } ≡ s)
          (sym c.note_ready.ensures.same)
          (λ l. ap (λ k. record s { lawful = k }) (∥∥₁_prop l s.lawful))
          _;
    }
