-- Why an event is refused: what a fault below is to the world, and the words.
use Rattle.std.specs.Prelude.{ℕ, List, codes}
use Rattle.ovs_source.specs.declared.error.SourceError.{SourceError}
use Rattle.ovs_source.specs.declared.error.SourceError.TheVariants as refusals
use Rattle.ovs_source.specs.declared.trim_error.TrimError.{TrimError}
use Rattle.ovs_source.specs.declared.trim_error.TrimError.TheVariants as trimming
use Rattle.ovs_wire.specs.declared.error.FrameError.{FrameError}
use Rattle.ovs_wire.specs.declared.error.FrameError.TheVariants as faults
use Rattle.ovs_world.specs.declared.error.WorldError.{WorldError}
use Rattle.ovs_world.specs.declared.error.WorldError.TheVariants.{BadCount, NoSuchNode, NoSession, IdTaken, RowIdsSpent, EpochsSpent, Full, NotReadOnly, TooLarge, NoMemory}

-- of a stream
abbrev pub refusal_of : FrameError → WorldError
refusal_of faults.NoMemory = NoMemory
refusal_of faults.NotObject = TooLarge
refusal_of faults.TooDeep = TooLarge
refusal_of faults.TooLong = TooLarge

-- of the source's transaction
abbrev pub refusal_of_source : SourceError → WorldError
refusal_of_source refusals.IdTaken = IdTaken
refusal_of_source refusals.RowIdsSpent = RowIdsSpent
refusal_of_source refusals.Full = Full
refusal_of_source refusals.NoMemory = NoMemory

-- of its trim
abbrev pub refusal_of_trim : TrimError → WorldError
refusal_of_trim trimming.IdTaken = IdTaken
refusal_of_trim trimming.EpochsSpent = EpochsSpent
refusal_of_trim trimming.Full = Full
refusal_of_trim trimming.NoMemory = NoMemory

-- the word for a refusal
abbrev pub world_word : WorldError → List ℕ
world_word BadCount = codes "bad-count"
world_word NoSuchNode = codes "no-such-node"
world_word NoSession = codes "no-session"
world_word IdTaken = codes "id-taken"
world_word RowIdsSpent = codes "row-ids-spent"
world_word EpochsSpent = codes "epochs-spent"
world_word Full = codes "full"
world_word NotReadOnly = codes "not-read-only"
world_word TooLarge = codes "too-large"
world_word NoMemory = codes "no-memory"
