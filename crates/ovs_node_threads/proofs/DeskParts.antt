-- That the lock of a relay's desk may be shared by threads, by its parts.
use denote.RattleType.{RattleType}
use denote.Ref.{NamedLft}
use denote.Param.Send.{IsSend, IsSync, sendable}
use denote.Param.SendFields.{declared_sync}
use Rattle.std.proofs.Crossing as heap
use Rattle.ovs_recorded_desk.specs.contracts.recorded_desk.RecordedDesk as recorded_desk
use Rattle.ovs_recorded_desk.specs.declared.name.DeskName.{Ghosts}
use Rattle.ovs_node_threads.specs.contracts.shared_authority.LockedForwarder as locked_desk

pub relay_lock_shares : (ℓ : NamedLft) (N : RattleType) (name : Ghosts N.Denot) (R : RattleType) → IsSend (recorded_desk.the_row N name) → IsSync R
    → IsSync (locked_desk.the_row ℓ N R name)
relay_lock_shares ℓ N name R desk waits = search (desk, waits, sendable, heap.crosses, declared_sync) depth 30 fits 10000
