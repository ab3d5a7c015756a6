-- A lock that is asked for isn't idle.
use Rattle.std.proofs.Common.{◌≡◌, ℕ, Bool, true, false, refl}
use Rattle.serde_json.specs.Data.{Data}
use Rattle.ovs_lock_desk.specs.declared.lock_state.LockVerb.{LockVerb}
use Rattle.ovs_lock_desk.specs.declared.lock_state.LockVerb.TheVariants as verbs
use Rattle.ovs_locks.specs.Lock.{waiter}
use Rattle.ovs_locks.proofs.Idle.{not_free, not_free_stolen}
use Rattle.ovs_lock_desk.specs.LockState.{is_held}
use Rattle.ovs_lock_desk.specs.RelayLock.{RelayLockValue, is_desk_idle, asked_here, enters}

pub busy : (has_source : Bool) (session : ℕ) (verb : LockVerb) (id : Data) (l : RelayLockValue) → enters verb ≡ true → is_desk_idle (asked_here has_source session verb id l) ≡ false
busy has_source session verbs.Lock id l e = rw (not_free l.lock.queue (waiter session)) refl
busy has_source session verbs.Steal id l e = by (is_held l.state) refl
  where
    by : (b : Bool) → is_held l.state ≡ b → is_desk_idle (asked_here has_source session verbs.Steal id l) ≡ false
    by true is = rw is (rw (not_free_stolen session l.lock.queue l.lock.stolen) refl)
    by false is = rw is refl
busy has_source session verbs.Unlock id l e = absurd cc
