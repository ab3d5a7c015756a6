-- A session with an upstream from its beginning to its end.
use Rattle.std.specs.Prelude.{◌≡◌, ℕ, List, Option, IfSome}
use Rattle.std.specs.Io.KnownBytes.{IsAtEnd}
use Rattle.ovs_desk.specs.declared.source_message.SourceMessage.{SourceMessage}
use Rattle.ovs_links.specs.declared.link.Link.{Link}
use Rattle.ovs_wire.specs.Counted.{one_more}
use Rattle.ovs_session.specs.declared.counts.Counts.{Counts}
use Rattle.ovs_session.specs.declared.ended.Ended.{Ended}
use Rattle.ovs_session.specs.declared.ended.Ended.TheVariants.{Closed, BadInput, ReadFault, WriteFault, Gone}
use Rattle.ovs_session.specs.Moving.{Moved, IsBad}
use Rattle.ovs_session.specs.Serving.{SessionValue, IsDone, fresh_within}
use Rattle.ovs_follow.specs.declared.handler_call.HandlerCall.{HandlerCall}
use Rattle.ovs_follow.specs.declared.input_fault.InputFault.{InputFault}
use Rattle.ovs_follow.specs.Faults.{IsFaultIn}
use Rattle.ovs_follow.specs.UpstreamState.{UpstreamStateValue, Hears, Asks, Refuses}

-- A session that began so, whose upstream's messages may have `most` bytes, moved these bytes, as it hears and asks. It ended so, with these counts, these links in its sink and these calls of the
-- side of the source;
-- `Closed` only at its reader's end, where all was heard, and `BadInput` only where the input is bad; a fault is told only then, and is one
-- that the input has.
pub record HasFollowed (refuses : SourceMessage → Type 0) (began : UpstreamStateValue) (most limit : ℕ) (input unread output written : Option (List ℕ)) (ended : Ended) (counts : Counts) (sent : List Link) (made : List HandlerCall) (fault : Option InputFault) : Type 0 where
  pub now : SessionValue UpstreamStateValue
  pub moved : Moved Hears Asks limit input unread output written (fresh_within most began) now
  pub counted : counts ≡ now.counts
  pub sends : sent ≡ now.state.sent
  pub makes : made ≡ now.state.made
  pub closed : ended ≡ Closed → IsDone now × IsAtEnd unread
  pub bad : ended ≡ BadInput → IsBad (Refuses refuses) now
  pub fault_is : IfSome fault (λ f. (ended ≡ BadInput) × IsFaultIn now f)

-- it ended for a fault of a device only where the last call of that device failed, and never since anything was gone
pub record FaultsOnly (ended : Ended) (read_failures read_failures_now write_failures write_failures_now : ℕ) : Type 0 where
  pub read : ended ≡ ReadFault → read_failures_now ≡ one_more read_failures
  pub write : ended ≡ WriteFault → write_failures_now ≡ one_more write_failures
  pub gone : ended ≡ Gone → ⊥
