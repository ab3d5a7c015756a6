use Rattle.ovs_lock_desk.specs.RelayLock.{step}
use Rattle.ovs_lock_desk.specs.declared.lock_state.LockEvent.TheVariants as events
use Rattle.ovs_lock_desk.proofs.DeskOwed.{nothing_told, stands_unlocked}
use Rattle.ovs_lock_desk.proofs.desk_laws.who_unlocks_is_told_no_more.Goals as goal

pub returns : goal.returns
returns c = λ session name l. nothing_told session name (step (events.Unlocked session) l) (stands_unlocked session l)
