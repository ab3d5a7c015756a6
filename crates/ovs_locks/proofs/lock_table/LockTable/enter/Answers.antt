use Rattle.std.proofs.Common.{◌≡◌, false, sym, subst}
use Rattle.ovs_locks.specs.BySession.{Notes}
use Rattle.ovs_locks.specs.Lock.{no_lock, mark, asked, stands}
use Rattle.ovs_locks.specs.LockTable.{lock_at}
use Rattle.ovs_locks.proofs.Moves.{asked_moves, asked_mark}
use Rattle.ovs_locks.proofs.Relisting.{Moves}
use Rattle.ovs_locks.proofs.TableSteps.{table_listed}
use Rattle.ovs_locks.proofs.lock_table.LockTable.enter.Goals as goal

pub invariant_of-self-in-Ok : goal.invariant_of-self-in-Ok
invariant_of-self-in-Ok c =
    let session = c.args.session in
    let name = c.args.name.now in
    let old = c.self.inside.locks in
    let apart = subst (λ locks. stands session (lock_at name locks) ≡ false) (sym c.self.view_is) c.requires.apart in
    let moves = subst (λ near. Moves mark no_lock session near (lock_at name old) (asked c.args.how session (lock_at name old))) (sym c.owner-robbed.ensures.value) (asked_moves c.args.how session (lock_at name old)) in (
      c.in-Ok.ensures.ascending,
      c.ask.ensures.none_idle,
      table_listed session name c.owner-robbed.result (asked c.args.how session) old c.ask.new.self c.in-Ok.ensures.after moves c.self.inside.sessions c.enter.new.self c.remark_any.new.sessions c.self.invariant.2
          (subst (λ m. Notes c.self.inside.sessions session name m c.enter.new.self) (sym (asked_mark c.args.how session (lock_at name old) apart)) c.in_ok-enter.ensures.note) c.remark_any.ensures.marks,
    )
