-- A session from its beginning on.
use Rattle.std.specs.Prelude.{◌≡◌, ℕ, List, ◌++◌, length}
use Rattle.ovs_wire.specs.Frames.{AreFrames}
use Rattle.ovs_session.specs.Counting.{IsAfter}
use Rattle.ovs_session.specs.Serving.{SessionValue, Said, messages, text, holding, Runs}

-- The session, whose peer's messages may have `most` bytes, read the stream `bytes_read`. The messages framed in what it has fed of it are those that it answered, in order,
-- the one that is held and those that wait. What it said is what it wrote, and then what is unsent.
pub record Answers {C : Type 0} (answers : C → List ℕ → List ℕ → C → Type 0) (tells : C → List ℕ → C → Type 0)
    (most : ℕ) (state : C) (bytes_read bytes_written : List ℕ) (now : SessionValue C) : Type 0 where
  pub framed : List ℕ
  pub stream : bytes_read ≡ framed ++ now.unfed
  pub said : List Said
  pub frames : AreFrames most framed ((messages said ++ holding now.held) ++ now.framing.waiting) now.framing.ending
  pub runs : Runs answers tells said state now.state
  pub written : text said ≡ bytes_written ++ now.unsent
  pub messages_counted : IsAfter now.counts.messages 0 (length (messages said ++ holding now.held))
  pub bytes_counted : IsAfter now.counts.bytes_out 0 (length bytes_written)

-- the messages of the whole stream are answered, in order, and all that was said was written
pub record AnswersAll {C : Type 0} (answers : C → List ℕ → List ℕ → C → Type 0) (tells : C → List ℕ → C → Type 0)
    (most : ℕ) (state : C) (bytes_read bytes_written : List ℕ) (now : SessionValue C) : Type 0 where
  pub said : List Said
  pub frames : AreFrames most bytes_read (messages said) now.framing.ending
  pub runs : Runs answers tells said state now.state
  pub written : bytes_written ≡ text said
