-- What `clap`'s error says of an answer that was made from it.
use Rattle.std.proofs.Common.{◌≡◌, ◌∙◌, sym, subst, refl, List, [], Result, Ok, Err, IfOk, IsTrue, inl, inr, ⊎_elim, false, true≢false}
use Rattle.std.specs.Prelude.{IfErr}
use Rattle.clap.specs.Words.{App, HasKind, IsAmong, Text, fault_of, kind_of}
use Rattle.clap.specs.declared.error.Error.{Error}
use Rattle.clap.specs.declared.error.kind.ErrorKind.TheVariants.{DisplayHelp, DisplayVersion, OutOfMemory}
use Rattle.ovs_command_line.specs.declared.command_line.Task.{Task}
use Rattle.ovs_command_line.specs.declared.command_line.Task.TheVariants.{Fold, World, Source, Relay, Help, Version}
use Rattle.ovs_command_line.specs.declared.command_fault.CommandFault.{CommandFault}
use Rattle.ovs_command_line.specs.declared.command_fault.CommandFault.TheVariants.{Usage, Missing, TwoOrigins, BadValue, OneTooMany, OwnAddress, ResyncOfSeveral, NoMemory}
use Rattle.ovs_command_line.specs.CommandLine.{AskForText, found_for, is_task, program}
use Rattle.ovs_command_line.specs.Faults.{HaveFault, IsRefusal}
use Rattle.ovs_command_line.proofs.CommandFaults.{help_is_all, version_is_all}

-- where clap finds nothing, no text is asked for
pub not_asked : (words : List Text) → fault_of program words ≡ [] → ¬ (AskForText words)
not_asked words nothing (inl asks) = subst (IsAmong DisplayHelp) (sym asks ∙ nothing) (inl refl)
not_asked words nothing (inr asks) = subst (IsAmong DisplayVersion) (sym asks ∙ nothing) (inl refl)

-- what clap's error says of an answer that was made from it
module _ (e : Error) (a : App) (words : List Text) (is : a ≡ program) (has : HasKind (fault_of a words) e) where
  found : HasKind (fault_of program words) e
  found = subst (λ (b : App). HasKind (fault_of b words) e) is has

  no_out : DisplayHelp ≡ OutOfMemory → ⊥
  no_out is = let no : DisplayHelp ≡ OutOfMemory = is in cc

  no_out_either : DisplayVersion ≡ OutOfMemory → ⊥
  no_out_either is = let no : DisplayVersion ≡ OutOfMemory = is in cc

  -- what clap finds is what the answer is for
  pub only_of_error : (r : Result Task CommandFault) → IsRefusal (kind_of e) r → IfOk r (λ task. fault_of program words ≡ found_for task)
  only_of_error (Err fault) refusal = tt
  only_of_error (Ok (Help text)) refusal = ⊎_elim (λ none. absurd (no_out (sym refusal ∙ none)))
      (λ among. help_is_all words (subst (λ k. IsAmong k (fault_of program words)) refusal among)) found
  only_of_error (Ok (Version text)) refusal = ⊎_elim (λ none. absurd (no_out_either (sym refusal ∙ none)))
      (λ among. version_is_all words (subst (λ k. IsAmong k (fault_of program words)) refusal among)) found
  only_of_error (Ok (Fold merge)) refusal = absurd refusal
  only_of_error (Ok World) refusal = absurd refusal
  only_of_error (Ok (Source o)) refusal = absurd refusal
  only_of_error (Ok (Relay o)) refusal = absurd refusal

  -- a text is no task
  pub no_task_of_error : (P : Task → Type 0) (r : Result Task CommandFault) → IsRefusal (kind_of e) r → IfOk r (λ task. IsTrue (is_task task) → P task)
  no_task_of_error P (Err fault) refusal = tt
  no_task_of_error P (Ok (Help text)) refusal = λ task. absurd (true≢false (sym task))
  no_task_of_error P (Ok (Version text)) refusal = λ task. absurd (true≢false (sym task))
  no_task_of_error P (Ok (Fold merge)) refusal = absurd refusal
  no_task_of_error P (Ok World) refusal = absurd refusal
  no_task_of_error P (Ok (Source o)) refusal = absurd refusal
  no_task_of_error P (Ok (Relay o)) refusal = absurd refusal

  -- a line is told where clap finds something that is no call for a text
  pub fault_of_error : (r : Result Task CommandFault) → IsRefusal (kind_of e) r → IfErr r (HaveFault words)
  fault_of_error (Ok task) refusal = tt
  fault_of_error (Err NoMemory) refusal = tt
  fault_of_error (Err (Missing o)) refusal = absurd refusal
  fault_of_error (Err TwoOrigins) refusal = absurd refusal
  fault_of_error (Err (BadValue o word)) refusal = absurd refusal
  fault_of_error (Err (OneTooMany word)) refusal = absurd refusal
  fault_of_error (Err (OwnAddress a)) refusal = absurd refusal
  fault_of_error (Err ResyncOfSeveral) refusal = absurd refusal
  fault_of_error (Err (Usage line)) refusal = elim found [
    | inl none ↦ absurd (refusal.2 none)
    | inr among ↦ (
      λ nothing. subst (IsAmong (kind_of e)) nothing among,
      λ asks. ⊎_elim
          (λ help. ⊎_elim (λ is. refusal.0 is) (λ no. absurd no) (subst (IsAmong (kind_of e)) help among))
          (λ version. ⊎_elim (λ is. refusal.1 is) (λ no. absurd no) (subst (IsAmong (kind_of e)) version among)) asks,
    )
  ]

  -- where a text is asked for, the answer is no task, and no fault but want of memory
  pub asked_of_error : AskForText words → (r : Result Task CommandFault) → IsRefusal (kind_of e) r
      → IfOk r (λ task. is_task task ≡ false) × IfErr r (λ fault. fault ≡ NoMemory)
  asked_of_error asks (Ok (Help text)) refusal = (refl, tt)
  asked_of_error asks (Ok (Version text)) refusal = (refl, tt)
  asked_of_error asks (Ok (Fold merge)) refusal = absurd refusal
  asked_of_error asks (Ok World) refusal = absurd refusal
  asked_of_error asks (Ok (Source o)) refusal = absurd refusal
  asked_of_error asks (Ok (Relay o)) refusal = absurd refusal
  asked_of_error asks (Err NoMemory) refusal = (tt, refl)
  asked_of_error asks (Err (Missing o)) refusal = absurd refusal
  asked_of_error asks (Err TwoOrigins) refusal = absurd refusal
  asked_of_error asks (Err (BadValue o word)) refusal = absurd refusal
  asked_of_error asks (Err (OneTooMany word)) refusal = absurd refusal
  asked_of_error asks (Err (OwnAddress a)) refusal = absurd refusal
  asked_of_error asks (Err ResyncOfSeveral) refusal = absurd refusal
  asked_of_error asks (Err (Usage line)) refusal = absurd ((fault_of_error (Err (Usage line)) refusal).1 asks)

  -- where the words are taken, memory ran out
  pub memory_of_error : kind_of e ≡ OutOfMemory → (P : Task → Type 0) (r : Result Task CommandFault) → IsRefusal (kind_of e) r
      → IfOk r P × IfErr r (λ fault. fault ≡ NoMemory)
  memory_of_error none P (Ok (Help text)) refusal = absurd (no_out (sym refusal ∙ none))
  memory_of_error none P (Ok (Version text)) refusal = absurd (no_out_either (sym refusal ∙ none))
  memory_of_error none P (Ok (Fold merge)) refusal = absurd refusal
  memory_of_error none P (Ok World) refusal = absurd refusal
  memory_of_error none P (Ok (Source o)) refusal = absurd refusal
  memory_of_error none P (Ok (Relay o)) refusal = absurd refusal
  memory_of_error none P (Err NoMemory) refusal = (tt, refl)
  memory_of_error none P (Err (Missing o)) refusal = absurd refusal
  memory_of_error none P (Err TwoOrigins) refusal = absurd refusal
  memory_of_error none P (Err (BadValue o word)) refusal = absurd refusal
  memory_of_error none P (Err (OneTooMany word)) refusal = absurd refusal
  memory_of_error none P (Err (OwnAddress a)) refusal = absurd refusal
  memory_of_error none P (Err ResyncOfSeveral) refusal = absurd refusal
  memory_of_error none P (Err (Usage line)) refusal = absurd (refusal.2 none)
