-- What was wrong with what an upstream said.
use Rattle.std.specs.Prelude.{◌≡◌, ℕ, List, Option, Some, None, Result, Ok, Err}
use Rattle.ovs_wire.specs.Message.{Says}
use Rattle.ovs_wire.specs.declared.message.Message as message
use Rattle.ovs_session.specs.Moving.{fault_in}
use Rattle.ovs_session.specs.Serving.{SessionValue}
use Rattle.ovs_upstream.specs.Hearing.{hears}
use Rattle.ovs_upstream.specs.declared.error.UpError.{UpError}
use Rattle.ovs_upstream.specs.declared.error.UpError.TheVariants as errors
use Rattle.ovs_upstream.specs.declared.up_session.Heard.{Heard}
use Rattle.ovs_upstream.specs.declared.up_session.UpSession.{UpSession}
use Rattle.ovs_follow.specs.UpstreamState.{UpstreamStateValue, IsHeard}
use Rattle.ovs_session.specs.Messages.{SaysNothing}
use Rattle.ovs_follow.specs.declared.input_fault.InputFault.{InputFault}
use Rattle.ovs_follow.specs.declared.input_fault.InputFault.TheVariants.{Stream, NoMessage, Message, Reply}

-- what is wrong with a message that came to this, where it was refused; nothing where memory ran out
abbrev pub fault_of_heard : Result Heard UpError → Option InputFault
fault_of_heard (Ok h) = Some Reply
fault_of_heard (Err errors.NoMemory) = None
fault_of_heard (Err errors.Ended) = Some (Message errors.Ended)
fault_of_heard (Err errors.OtherSchema) = Some (Message errors.OtherSchema)
fault_of_heard (Err errors.BadReply) = Some (Message errors.BadReply)
fault_of_heard (Err errors.BadId) = Some (Message errors.BadId)
fault_of_heard (Err (errors.Change e)) = Some (Message (errors.Change e))

-- the text says no message, or one that the session refuses so, or one that it hears, so that what the message says was refused
abbrev pub IsFaultOf : UpSession → List ℕ → InputFault → Type 0
IsFaultOf up text NoMessage = SaysNothing text
IsFaultOf up text (Message e) = (m : message.Message) × Says text m × (hears up m ≡ Err e)
IsFaultOf up text Reply = (h : Heard) × IsHeard up text h
IsFaultOf up text (Stream fault) = ⊥

-- the stream has this fault, or the message that isn't answered
abbrev pub IsFaultIn : SessionValue UpstreamStateValue → InputFault → Type 0
IsFaultIn s (Stream fault) = fault_in s.framing.ending ≡ Some fault
IsFaultIn s NoMessage = (text : List ℕ) × (s.held ≡ Some text) × IsFaultOf s.state.up text NoMessage
IsFaultIn s (Message e) = (text : List ℕ) × (s.held ≡ Some text) × IsFaultOf s.state.up text (Message e)
IsFaultIn s Reply = (text : List ℕ) × (s.held ≡ Some text) × IsFaultOf s.state.up text Reply
