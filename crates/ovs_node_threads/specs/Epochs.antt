-- Answers of the source, heard in a session that may tell of a chain that is over at the node.
use Rattle.std.specs.Prelude.{◌≡◌, ◌⊎◌, ◌^◌, ℕ, List, nat_lt, if◌then◌else◌}
use Rattle.ovs_types.specs.Schema.{SchemaValue}
use Rattle.ovs_links.specs.Absorbing.{folded_by}
use Rattle.ovs_links.specs.StepChains.{start_at}
use Rattle.ovs_links.specs.declared.step.Step.{Step}
use Rattle.ovs_desk.specs.declared.source_message.SourceMessage.{SourceMessage}
use Rattle.ovs_desk.specs.declared.source_message.SourceMessage.TheVariants.{ReplyFor, Locked, Stolen}

-- where the chain begins of which a session tells whose links join up from this id: there, where that is a start; else the id was
-- asked for, and is on the chain that was the node's
abbrev pub begun_from : ℕ → ℕ → ℕ
begun_from start from = if nat_lt from (2 ^ 64) then from else start

-- where the chain begins of a node that shows these steps; 0 may stand for that, where it can't be seen
abbrev pub IsBeginning : SchemaValue → List Step → ℕ → Type 0
IsBeginning schema steps begins = (begins ≡ 0) ⊎ (begins ≡ start_at (folded_by schema steps))

-- where an answer stands that a session from a start heard, while the node's chain began here: there, if that is behind the
-- session's start, since the session's chain is over then; else where it stood
abbrev pub standing_in : ℕ → ℕ → ℕ → ℕ
standing_in start begins standing = if nat_lt start begins then begins else standing

abbrev pub restood : ℕ → ℕ → SourceMessage → SourceMessage
restood start begins (ReplyFor number a) = ReplyFor number (record { answer = a.answer; standing = standing_in start begins a.standing })
restood start begins (Locked name) = Locked name
restood start begins (Stolen name) = Stolen name
