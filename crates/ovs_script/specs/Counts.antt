-- What is counted of the devices of a run.
use Rattle.std.specs.Prelude.{◌≡◌, ◌⊎◌, ℕ, ◌+◌, ◌-◌, ◌^◌, ◌≤◌, min, Result, Ok, Err, Option, Some, None, is_some}
use Rattle.ovs_wire.specs.Counted.{Counting, one_more}
use Rattle.ovs_script.specs.declared.script_error.ScriptError.{ScriptError}
use Rattle.ovs_script.specs.declared.script_error.ScriptError.TheVariants.{ReadFault, WriteFault, TurnsSpent}
use Rattle.ovs_script.specs.declared.run_end.RunEnd.{RunEnd}
use Rattle.ovs_script.specs.declared.run_end.RunEnd.TheVariants as ends
use Rattle.ovs_script.specs.Turns.{most_turns, IsSpentByCalls}
use Rattle.ovs_script.specs.RunEnd.{writes_failed_by}

-- ---- one device

-- the failures counted of a reader, which had so many before this answer: one more exactly at a read fault
abbrev pub failed_reads : {T : Type 0} → ℕ → Result T ScriptError → ℕ
failed_reads n (Ok value) = n
failed_reads n (Err ReadFault) = one_more n
failed_reads n (Err _) = n

-- the failures counted of a writer, which had so many before this answer: one more exactly at a write fault
abbrev pub failed_writes : {T : Type 0} → ℕ → Result T ScriptError → ℕ
failed_writes n (Ok value) = n
failed_writes n (Err WriteFault) = one_more n
failed_writes n (Err _) = n

-- what reading counts, from before to now: each call spends a turn, and the answer tells whether one failed
pub record CountsReads {R T : Type 0} (before now : Counting R) (turns turns' : ℕ) (answer : Result T ScriptError) : Type 0 where
  pub calls : IsSpentByCalls (before.calls + turns) (now.calls + turns')
  pub spent : answer ≡ Err TurnsSpent → turns' ≡ 0
  pub failures : now.failures ≡ failed_reads before.failures answer

-- what writing counts, from before to now: each call spends a turn, and the answer tells whether one failed
pub record CountsWrites {W T : Type 0} (before now : Counting W) (turns turns' : ℕ) (answer : Result T ScriptError) : Type 0 where
  pub calls : IsSpentByCalls (before.calls + turns) (now.calls + turns')
  pub spent : answer ≡ Err TurnsSpent → turns' ≡ 0
  pub failures : now.failures ≡ failed_writes before.failures answer

-- ---- a reader and a writer

-- what a run over one text counts: each call on the reader and the writer spends a turn, and the answer tells which of them failed
pub record CountsText {R W T : Type 0} (reader reader' : Counting R) (writer writer' : Counting W) (turns turns' : ℕ) (answer : Result T ScriptError) : Type 0 where
  pub calls : IsSpentByCalls ((reader.calls + writer.calls) + turns) ((reader'.calls + writer'.calls) + turns')
  pub spent : answer ≡ Err TurnsSpent → turns' ≡ 0
  pub reads : reader'.failures ≡ failed_reads reader.failures answer
  pub writes : writer'.failures ≡ failed_writes writer.failures answer

-- ---- all devices of a run

-- what a second reader has counted, or 0 where there is none
abbrev pub counted_of : {M : Type 0} → (M → ℕ) → Option M → ℕ
counted_of count None = 0
counted_of count (Some m) = count m

-- the calls that were counted of two readers, of which the second may be missing, and a writer
abbrev pub calls_of : {R M W : Type 0} → Counting R → Option (Counting M) → Counting W → ℕ
calls_of {R} {M} {W} reader second writer = reader.calls + counted_of (λ (m : Counting M). m.calls) second + writer.calls

-- no failure more was counted of either reader
abbrev pub NoneFailed : {R M : Type 0} → Counting R → Counting R → Option (Counting M) → Option (Counting M) → Type 0
NoneFailed {R} {M} reader reader' second second' = (reader'.failures ≡ reader.failures)
    × (counted_of (λ (m : Counting M). m.failures) second' ≡ counted_of (λ (m : Counting M). m.failures) second)

-- one failure more was counted of exactly one of the readers
abbrev pub OneFailed : {R M : Type 0} → Counting R → Counting R → Option (Counting M) → Option (Counting M) → Type 0
OneFailed {R} {M} reader reader' second second' =
    ((reader'.failures ≡ one_more reader.failures) × (counted_of (λ (m : Counting M). m.failures) second' ≡ counted_of (λ (m : Counting M). m.failures) second))
    ⊎ ((reader'.failures ≡ reader.failures) × (counted_of (λ (m : Counting M). m.failures) second' ≡ one_more (counted_of (λ (m : Counting M). m.failures) second)))

-- which of two cases an answer tells: at a read fault that a reader failed, and else that none did
abbrev pub AnswerTells : {T : Type 0} → Result T ScriptError → Type 0 → Type 0 → Type 0
AnswerTells (Ok value) none_failed one_failed = none_failed
AnswerTells (Err ReadFault) none_failed one_failed = one_failed
AnswerTells (Err _) none_failed one_failed = none_failed

-- which of two cases an end tells: at a read fault that a reader failed, and where all is written or memory ran out that none
-- did; a write fault and the want of calls may have come in a read fault's place, so that it is either
abbrev pub EndTells : RunEnd → Type 0 → Type 0 → Type 0
EndTells ends.ReadFault none_failed one_failed = one_failed
EndTells ends.WriteFault none_failed one_failed = none_failed ⊎ one_failed
EndTells ends.TurnsSpent none_failed one_failed = none_failed ⊎ one_failed
EndTells _ none_failed one_failed = none_failed

-- what a run over all texts counts: each call spends a turn, and the answer tells which device failed
pub record CountsTexts {R M W T : Type 0} (reader reader' : Counting R) (second second' : Option (Counting M)) (writer writer' : Counting W)
    (turns turns' : ℕ) (answer : Result T ScriptError) : Type 0 where
  pub calls : IsSpentByCalls (calls_of reader second writer + turns) (calls_of reader' second' writer' + turns')
  pub spent : answer ≡ Err TurnsSpent → turns' ≡ 0
  pub reads : AnswerTells answer (NoneFailed reader reader' second second') (OneFailed reader reader' second second')
  pub writes : writer'.failures ≡ failed_writes writer.failures answer
  pub readers : is_some second' ≡ is_some second

-- what a whole run counts: at most 1,000,000 calls, and all of them where the turns are spent, as far as 64 bits can tell; and
-- the end tells which device failed
pub record CountsRun {R M W : Type 0} (reader reader' : Counting R) (second second' : Option (Counting M)) (writer writer' : Counting W) (end : RunEnd) : Type 0 where
  pub calls : calls_of reader' second' writer' ≤ calls_of reader second writer + most_turns
  pub spent : end ≡ ends.TurnsSpent → min (calls_of reader' second' writer') (2 ^ 64 - 1) ≡ min (calls_of reader second writer + most_turns) (2 ^ 64 - 1)
  pub reads : EndTells end (NoneFailed reader reader' second second') (OneFailed reader reader' second second')
  pub writes : writer'.failures ≡ writes_failed_by writer.failures end
  pub readers : is_some second' ≡ is_some second
