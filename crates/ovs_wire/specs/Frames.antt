-- A stream of bytes is white space and objects, and then a rest that is no whole object yet, or a fault. A message of it may have `most` bytes.
use Rattle.std.specs.Prelude.{◌≡◌, ℕ, ◌+◌, ◌-◌, ◌<◌, ◌≤◌, ◌⊎◌, List, [], ◌∷◌, ◌++◌, length, take, slice_index, All}
use Rattle.ovs_wire.specs.declared.error.FrameError.{FrameError}
use Rattle.ovs_wire.specs.declared.error.FrameError.TheVariants.{NotObject, TooDeep, TooLong, NoMemory}
use Rattle.ovs_wire.specs.Limits.{most_nesting}
use Rattle.ovs_wire.specs.Depth.{depth}

-- space, tab, CR or LF
abbrev pub IsSpace : ℕ → Type 0
IsSpace b = (b ≡ 32) ⊎ ((b ≡ 9) ⊎ ((b ≡ 13) ⊎ (b ≡ 10)))

-- it begins with { and ends at the first place where the depth is 0 again
pub record IsBalanced (o : List ℕ) : Type 0 where
  pub begins : (0 < length o) × (slice_index o 0 ≡ 123)
  pub ends : depth o ≡ 0
  pub inside : (k : ℕ) → 0 < k → k < length o → 0 < depth (take k o)

-- nothing, or the beginning of balanced bytes that aren't whole yet
pub record IsBegun (r : List ℕ) : Type 0 where
  pub begins : 0 < length r → slice_index r 0 ≡ 123
  pub inside : (k : ℕ) → 0 < k → k ≤ length r → 0 < depth (take k r)

-- no place is too deep, and there are not too many bytes
pub record IsWithinLimits (most : ℕ) (bytes : List ℕ) : Type 0 where
  pub nests : (k : ℕ) → depth (take k bytes) ≤ most_nesting
  pub fits : length bytes ≤ most

-- the deepest place is this deep
pub record IsNested (bytes : List ℕ) (n : ℕ) : Type 0 where
  pub at_most : (k : ℕ) → depth (take k bytes) ≤ n
  pub reached : (k : ℕ) × (depth (take k bytes) ≡ n)

-- white space, these bytes, and white space
pub record IsPadded (bytes : List ℕ) (o : List ℕ) : Type 0 where
  pub before : List ℕ
  pub after : List ℕ
  pub whole : bytes ≡ before ++ (o ++ after)
  pub spaces : All IsSpace before × All IsSpace after

-- they neither begin nor end with white space
abbrev pub IsBare : List ℕ → Type 0
IsBare bytes =
    (IsSpace (slice_index bytes 0) → ⊥) × (IsSpace (slice_index bytes (length bytes - 1)) → ⊥)

-- a whole message
pub record IsObject (most : ℕ) (o : List ℕ) : Type 0 where
  pub balanced : IsBalanced o
  pub limits : IsWithinLimits most o

-- nothing, or a message that isn't whole yet
pub record IsUnfinished (most : ℕ) (r : List ℕ) : Type 0 where
  pub begun : IsBegun r
  pub limits : IsWithinLimits most r

-- after what is unfinished this byte is this fault; where a message may have no byte at all its { is the one too many
abbrev pub Breaks : ℕ → List ℕ → ℕ → FrameError → Type 0
Breaks most u b NotObject = (length u ≡ 0) × (IsSpace b → ⊥) × (b ≡ 123 → ⊥)
Breaks most u b TooDeep = (0 < length u) × (depth (u ++ b ∷ []) ≡ most_nesting + 1)
Breaks most u b TooLong = (length u ≡ most) × (depth (u ++ b ∷ []) ≤ most_nesting) × (length u ≡ 0 → b ≡ 123)
Breaks most u b NoMemory = ⊥

-- what is unfinished, and then a byte that is a fault
pub record HasFault (most : ℕ) (r : List ℕ) (f : FrameError) : Type 0 where
  pub before : List ℕ
  pub byte : ℕ
  pub more : List ℕ
  pub whole : r ≡ before ++ byte ∷ more
  pub unfinished : IsUnfinished most before
  pub breaks : Breaks most before byte f

-- a place of it is too deep, or it is too long
abbrev pub IsTooLarge : ℕ → List ℕ → Type 0
IsTooLarge most t = HasFault most t TooDeep ⊎ HasFault most t TooLong

-- a byte of white space, or an object
pub data Part : Type 0 where
  Space : ℕ → Part
  Object : List ℕ → Part

-- the byte is white space, or the bytes are an object
abbrev pub IsPart : ℕ → Part → Type 0
IsPart most (Space b) = IsSpace b
IsPart most (Object o) = IsObject most o

-- the bytes of one part
abbrev pub bytes_of : Part → List ℕ
bytes_of (Space b) = b ∷ []
bytes_of (Object o) = o

-- the bytes of the parts, one after another
abbrev pub joined : List Part → List ℕ
joined [] = []
joined (p ∷ ps) = bytes_of p ++ joined ps

-- these objects, after the part if it is one too
abbrev pub objects_with : Part → List (List ℕ) → List (List ℕ)
objects_with (Space b) os = os
objects_with (Object o) os = o ∷ os

-- the objects among the parts
abbrev pub objects : List Part → List (List ℕ)
objects [] = []
objects (p ∷ ps) = objects_with p (objects ps)

-- how a stream ends: with a rest that more bytes may make whole, or with its first fault
pub data Ending : Type 0 where
  Rest : List ℕ → Ending
  Fault : FrameError → Ending

-- the rest is unfinished, or it has the fault
abbrev pub EndsAs : ℕ → List ℕ → Ending → Type 0
EndsAs most r (Rest s) = (r ≡ s) × IsUnfinished most r
EndsAs most r (Fault f) = HasFault most r f

-- the frames of a stream: it is white space and these objects, and then this ending
pub record AreFrames (most : ℕ) (stream : List ℕ) (found : List (List ℕ)) (ending : Ending) : Type 0 where
  pub parts : List Part
  pub rest : List ℕ
  pub whole : stream ≡ joined parts ++ rest
  pub each : All (IsPart most) parts
  pub found_are : objects parts ≡ found
  pub ends : EndsAs most rest ending
