-- What users are promised of a reader's session.
use Rattle.std.specs.Prelude.{◌≡◌, ◌⊎◌, ℕ, List, [], ◌++◌, Bool, map, Option, Some, None, true, length}
use Rattle.std.specs.Io.KnownBytes.{Consumes, Appends}
use Rattle.std.specs.List.{AllByRecursion}
use mathlib.Core.List.{IsPrefix}
use Rattle.ovs_types.specs.Schema.{SchemaValue}
use Rattle.ovs_authority.specs.declared.ask.Ask.{Ask}
use Rattle.ovs_links.specs.declared.step.Step.{Step}
use Rattle.ovs_wire.specs.Limits.{most_bytes}
use Rattle.ovs_wire.specs.Frames.{AreFrames, Ending}
use Rattle.ovs_wire.specs.declared.message.Message.{Message}
use Rattle.ovs_session.specs.Counting.{IsAfter}
use Rattle.ovs_session.specs.Moving.{is_fault}
use Rattle.ovs_session.specs.Serving.{holding}
use Rattle.ovs_session.specs.declared.counts.Counts.{Counts}
use Rattle.ovs_session.specs.declared.ended.Ended.{Ended}
use Rattle.ovs_session.specs.declared.ended.Ended.TheVariants.{Closed, BadInput}
use Rattle.ovs_views.specs.Published.{ViewSessionValue}
use Rattle.ovs_service.specs.Calls.{Call, Give, heard}
use Rattle.ovs_service.specs.Client.{ClientValue}
use Rattle.ovs_session.specs.Messages.{SaysNothing}
use Rattle.ovs_service.specs.Deeds.{Task, Deed, task_of, messages_of, calls_of, tasks, IsReplied, Settles}
use Rattle.ovs_service.specs.Texts.{AreTextsOf}

-- the stream has a fault behind the messages that were answered, or the message that was taken says nothing
abbrev pub IsBadInput : Ending → List (List ℕ) → Option (List ℕ) → Type 0
IsBadInput ending waiting held = (is_fault ending ≡ true) × (waiting ≡ []) × (held ≡ None) ⊎ ((m : List ℕ) × (held ≡ Some m) × SaysNothing m)

module _ (schema : SchemaValue) (replies : Ask → Option Message → Type 0) (owes : Bool → List Step → Message → Type 0) where
  -- Of the stream that came, the first whole messages were answered, in order, with what was told in between. Of what these calls gave
  -- to do the first was done, in order: each ask was put once, each reply and each message that was collected was said once, as far as
  -- it isn't due; and all calls that were made for the session at the desk are these. What was written is a beginning of what was said.
  pub record WritesBeginning (start : ViewSessionValue) (counts : Counts) (ended : Ended) (bytes_read bytes_written : List ℕ) (now : ClientValue) : Type 0 where
    pub framed : List ℕ
    pub unframed : List ℕ
    pub stream : bytes_read ≡ framed ++ unframed
    pub calls : List Call
    -- the message that was taken and isn't answered yet, and those that wait
    pub held : Option (List ℕ)
    pub waiting : List (List ℕ)
    pub ending : Ending
    pub frames : AreFrames most_bytes framed ((heard calls ++ holding held) ++ waiting) ending
    pub todo : List Task
    pub gives : Give schema owes calls start todo now.session
    pub text : List ℕ
    pub settles : Settles replies todo now.calls text (tasks now.due)
    pub begins : IsPrefix bytes_written text
    pub bad : ended ≡ BadInput → IsBadInput ending waiting held
    pub messages_counted : IsAfter counts.messages 0 (length (heard calls ++ holding held))
    pub bytes_counted : IsAfter counts.bytes_out 0 (length bytes_written)

  -- All whole messages of the stream that came were answered, in order, with what was told in between, and all that these calls gave to
  -- do was done, in order. All calls that were made for the session at the desk are these, and what was written is the text of all
  -- messages that were given.
  pub record WritesAll (start : ViewSessionValue) (bytes_read bytes_written : List ℕ) (now : ClientValue) : Type 0 where
    pub calls : List Call
    pub ending : Ending
    pub frames : AreFrames most_bytes bytes_read (heard calls) ending
    pub deeds : List Deed
    pub gives : Give schema owes calls start (map task_of deeds) now.session
    pub made : now.calls ≡ calls_of deeds
    pub replied : AllByRecursion (IsReplied replies) now.calls
    pub texts : AreTextsOf (messages_of deeds) bytes_written

  -- A session passed from its reader, of which the first is left and then the second, to its writer, which has the third and
  -- then the fourth: it wrote a beginning of the text of what its calls gave, and all of it where it ended closed;
  -- and it ended for bad input only where that is bad.
  pub record Kept (start : ViewSessionValue) (input unread output written : Option (List ℕ)) (counts : Counts) (ended : Ended) (now : ClientValue) : Type 0 where
    pub bytes_read : List ℕ
    pub bytes_written : List ℕ
    pub reads : Consumes input unread bytes_read
    pub writes : Appends output written bytes_written
    pub beginning : WritesBeginning start counts ended bytes_read bytes_written now
    pub all : ended ≡ Closed → WritesAll start bytes_read bytes_written now
