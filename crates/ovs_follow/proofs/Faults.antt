-- What was wrong with what an upstream said.
use Rattle.std.proofs.Common.{◌≡◌, ℕ, List, Some, Result, Ok, Err}
use Rattle.std.specs.Prelude.{IfSome}
use Rattle.ovs_wire.specs.Message.{Says}
use Rattle.ovs_wire.specs.declared.message.Message as message
use Rattle.ovs_session.specs.Serving.{SessionValue}
use Rattle.ovs_json.specs.Gives.{Gives}
use Rattle.ovs_upstream.specs.Hearing.{hears}
use Rattle.ovs_upstream.specs.declared.error.UpError.{UpError}
use Rattle.ovs_upstream.specs.declared.error.UpError.TheVariants as errors
use Rattle.ovs_upstream.specs.declared.up_session.Heard.{Heard}
use Rattle.ovs_upstream.specs.declared.up_session.UpSession.{UpSession}
use Rattle.ovs_follow.specs.Faults.{IsFaultIn, IsFaultOf, fault_of_heard}
use Rattle.ovs_follow.specs.UpstreamState.{UpstreamStateValue}
use Rattle.ovs_follow.specs.declared.input_fault.InputFault.{InputFault}
use Rattle.ovs_follow.specs.declared.input_fault.InputFault.TheVariants.{Stream, NoMessage, Message, Reply}

-- a fault of the message that isn't answered is the session's
pub fault_of_held : (s : SessionValue UpstreamStateValue) (text : List ℕ) (fault : InputFault) → s.held ≡ Some text → IsFaultOf s.state.up text fault → IsFaultIn s fault
fault_of_held s text NoMessage held is = (text, held, is)
fault_of_held s text (Message e) held is = (text, held, is)
fault_of_held s text Reply held is = (text, held, is)
fault_of_held s text (Stream fault) held is = absurd is

-- what is told of a message that was refused is so
pub fault_is_heard : (up : UpSession) (text : List ℕ) (m : message.Message) (r : Result Heard UpError) → Says text m → Gives errors.NoMemory (λ h. h) r (hears up m)
    → IfSome (fault_of_heard r) (IsFaultOf up text)
fault_is_heard up text m (Ok h) says is = (h, record { message = m; says = says; hears = is })
fault_is_heard up text m (Err errors.NoMemory) says is = tt
fault_is_heard up text m (Err errors.Ended) says is = (m, says, is (λ same. absurd (let no : errors.Ended ≡ errors.NoMemory = same in cc)))
fault_is_heard up text m (Err errors.OtherSchema) says is = (m, says, is (λ same. absurd (let no : errors.OtherSchema ≡ errors.NoMemory = same in cc)))
fault_is_heard up text m (Err errors.BadReply) says is = (m, says, is (λ same. absurd (let no : errors.BadReply ≡ errors.NoMemory = same in cc)))
fault_is_heard up text m (Err errors.BadId) says is = (m, says, is (λ same. absurd (let no : errors.BadId ≡ errors.NoMemory = same in cc)))
fault_is_heard up text m (Err (errors.Change e)) says is = (m, says, is (λ same. absurd (let no : errors.Change e ≡ errors.NoMemory = same in cc)))
