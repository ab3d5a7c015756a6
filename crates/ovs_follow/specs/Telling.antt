-- What a session with an upstream did with the handler, over its whole life.
use Rattle.std.specs.Prelude.{◌≡◌, ◌⊎◌, ◌++◌, ℕ, List, [], ◌∷◌, Ok, Err}
use Rattle.std.specs.Option.{option_to_list}
use Rattle.ovs_session.specs.Serving.{Said, Answered, Told}
use Rattle.ovs_wire.specs.Frames.{Ending, AreFrames}
use Rattle.ovs_wire.specs.declared.message.Message.{Message}
use Rattle.ovs_upstream.specs.Hearing.{Hearing, hears, at_stage}
use Rattle.ovs_upstream.specs.declared.up_session.SyncState.{SyncState}
use Rattle.ovs_upstream.specs.declared.up_session.UpSession.{UpSession}
use Rattle.ovs_follow.specs.Deriving.{AreRead}
use Rattle.ovs_follow.specs.UpstreamState.{UpstreamStateValue, AreWritten, begins_at, found, handed, taken}
use Rattle.ovs_follow.specs.declared.handler_call.HandlerCall.{HandlerCall}
use Rattle.ovs_follow.specs.declared.handler_call.HandlerCall.TheVariants as calls

-- ---- requests that are passed on

-- these requests were said in what was told, each once and in order
abbrev pub AreSaid : List Said → List Message → Type 0
AreSaid [] ms = ms ≡ []
AreSaid (Answered m t ∷ more) ms = AreSaid more ms
AreSaid (Told t ∷ more) ms = (first rest : List Message) × (ms ≡ first ++ rest) × ((first ≡ []) ⊎ AreWritten first t) × AreSaid more rest

-- While this was said, requests were taken up: the one that waited before and these were said, each once and in order, but for the last,
-- which may wait.
pub record Passed (old : UpstreamStateValue) (said : List Said) (new : UpstreamStateValue) : Type 0 where
  pub added : List HandlerCall
  pub made : new.made ≡ old.made ++ added
  pub requests : List Message
  pub are_said : AreSaid said requests
  pub each : option_to_list old.waiting ++ taken added ≡ requests ++ option_to_list new.waiting

-- ---- what the handler is told

-- what it was told
abbrev pub told : List HandlerCall → List HandlerCall
told [] = []
told (calls.TookUp m ∷ more) = told more
told (calls.Heard message ∷ more) = calls.Heard message ∷ told more
told (calls.Found from ∷ more) = calls.Found from ∷ told more

abbrev pub told_after : UpSession → Hearing → (SyncState → List HandlerCall) → List HandlerCall
told_after up (Err e) rest = []
told_after up (Ok h) rest = (handed up.stage h.event ++ found up.stage h.stage (begins_at h)) ++ rest h.stage

-- what it is to be told of messages, up to the first that ends the session
abbrev pub derived_calls : UpSession → List Message → List HandlerCall
derived_calls up [] = []
derived_calls up (m ∷ ms) = told_after up (hears up m) (λ stage. derived_calls (at_stage up stage) ms)

-- Of what it is to be told of a stream of bytes, of which a message may have `most`, the first was told it, in order, and nothing else: of the messages that are framed in the
-- stream, up to the first text that says none, and up to the first message that ends the session.
pub record TellsFirst (most : ℕ) (up : UpSession) (stream : List ℕ) (made : List HandlerCall) : Type 0 where
  pub texts : List (List ℕ)
  pub ending : Ending
  pub frames : AreFrames most stream texts ending
  pub messages : List Message
  pub read : AreRead texts messages
  pub later : List HandlerCall
  pub first : derived_calls up messages ≡ told made ++ later
