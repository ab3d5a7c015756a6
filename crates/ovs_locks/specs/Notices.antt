-- Notices as messages.
use Rattle.std.specs.Prelude.{[], ◌∷◌, codes}
use Rattle.serde_json.specs.Data.{string}
use Rattle.ovs_wire.specs.declared.message.Message.{Message}
use Rattle.ovs_wire.specs.declared.message.Message.TheVariants.{Notice}
use Rattle.ovs_locks.specs.declared.notice.LockNotice.{LockNotice}
use Rattle.ovs_locks.specs.declared.notice.LockNotice.TheVariants.{Locked, Stolen}

-- `locked` or `stolen`, with the name of the lock
abbrev pub message_of : LockNotice → Message
message_of (Locked name) = Notice (codes "locked") (string name ∷ [])
message_of (Stolen name) = Notice (codes "stolen") (string name ∷ [])
