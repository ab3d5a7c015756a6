-- The links that a stream of bytes stands for, and what of them was sent.
use Rattle.std.specs.Prelude.{◌≡◌, ◌++◌, ℕ, List, [], ◌∷◌}
use Rattle.ovs_links.specs.declared.link.Link.{Link}
use Rattle.ovs_wire.specs.Frames.{Ending, AreFrames}
use Rattle.ovs_wire.specs.Message.{Says}
use Rattle.ovs_wire.specs.declared.message.Message.{Message}
use Rattle.ovs_upstream.specs.Hearing.{derived}
use Rattle.ovs_upstream.specs.declared.up_session.UpSession.{UpSession}
use Rattle.ovs_session.specs.Messages.{SaysNothing}

-- the messages that the texts say, up to the first that says none
abbrev pub AreRead : List (List ℕ) → List Message → Type 0
AreRead [] ms = ms ≡ []
AreRead (t ∷ ts) [] = SaysNothing t
AreRead (t ∷ ts) (m ∷ ms) = Says t m × AreRead ts ms

-- the links that a session makes of a stream of bytes, of which a message may have `most`: of the messages that are framed in it, up to the first text that says
-- none, and up to the first message that ends the session
pub record AreDerived (most : ℕ) (up : UpSession) (stream : List ℕ) (links : List Link) : Type 0 where
  pub texts : List (List ℕ)
  pub ending : Ending
  pub frames : AreFrames most stream texts ending
  pub messages : List Message
  pub read : AreRead texts messages
  pub are : links ≡ derived up messages

-- of these links the first were added
abbrev pub IsFirst : List Link → List Link → List Link → Type 0
IsFirst links old new = (first rest : List Link) × (links ≡ first ++ rest) × (new ≡ old ++ first)

-- of the links that are derived from a stream the first were sent, behind those that were sent before
pub record SendsFirst (most : ℕ) (up : UpSession) (stream : List ℕ) (old new : List Link) : Type 0 where
  pub links : List Link
  pub derived : AreDerived most up stream links
  pub first : List Link
  pub rest : List Link
  pub whole : links ≡ first ++ rest
  pub sent : new ≡ old ++ first

-- all of them were sent
pub record SendsAll (most : ℕ) (up : UpSession) (stream : List ℕ) (old new : List Link) : Type 0 where
  pub links : List Link
  pub derived : AreDerived most up stream links
  pub sent : new ≡ old ++ links
