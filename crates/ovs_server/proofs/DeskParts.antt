-- That a source's desk behind its lock may go to other threads, and be shared by them, by its parts.
use denote.RattleType.{RattleType}
use denote.Ref.{NamedLft}
use denote.Param.Send.{IsSend, IsSync, sendable}
use denote.Param.SendFields.{as_row_send, as_row_sync, declared_send, declared_sync}
use Rattle.std.proofs.Crossing as heap
use Rattle.ovs_source_node.specs.contracts.locked_source.LockedSource as locked_source
use Rattle.ovs_recorded_source.specs.contracts.recorded_source.RecordedSource as recorded_source
use Rattle.ovs_recorded_source.specs.declared.name.SourceName as source_name
use Rattle.ovs_views.specs.declared.name.NodeName as node_name

pub source_lock_shares : (ℓ : NamedLft) (K N R : RattleType) (k : node_name.Ghosts K.Denot) (n : source_name.Ghosts N.Denot) → IsSend (recorded_source.the_row N n) → IsSync R
    → IsSync (locked_source.the_row ℓ K N R k n)
source_lock_shares ℓ K N R k n desk waits = search (desk, waits, sendable, heap.crosses, as_row_sync, declared_sync) depth 30 fits 10000

pub source_lock_sends : (ℓ : NamedLft) (K N R : RattleType) (k : node_name.Ghosts K.Denot) (n : source_name.Ghosts N.Denot) → IsSend (recorded_source.the_row N n) → IsSync R
    → IsSend (locked_source.the_row ℓ K N R k n)
source_lock_sends ℓ K N R k n desk waits = search (desk, waits, sendable, heap.crosses, as_row_send, declared_send) depth 30 fits 10000
