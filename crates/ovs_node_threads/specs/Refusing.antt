-- What the source may not say to a relay's desk.
use Rattle.std.specs.Prelude.{◌≡◌, nat_lt, false, None}
use Rattle.ovs_desk.specs.Relaying.{first_lock, lock_reply}
use Rattle.ovs_desk.specs.declared.source_message.SourceMessage.{SourceMessage}
use Rattle.ovs_desk.specs.declared.source_message.SourceMessage.TheVariants.{ReplyFor, Locked, Stolen}

-- the answer to a request for a lock says neither that the lock is the relay's nor that it isn't, and is no error
abbrev pub IsBadReply : SourceMessage → Type 0
IsBadReply (ReplyFor number a) = (nat_lt number first_lock ≡ false) × (lock_reply a.answer ≡ None)
IsBadReply (Locked name) = ⊥
IsBadReply (Stolen name) = ⊥
