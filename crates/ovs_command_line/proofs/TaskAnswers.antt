-- What an answer that was made from `clap`'s matches says of the words.
use Rattle.std.proofs.Common.{◌≡◌, sym, subst, refl, List, [], Result, Ok, Err, IfOk, IsTrue, inl, inr, true≢false}
use Rattle.std.specs.Prelude.{IfErr}
use Rattle.clap.specs.Words.{Row, Text, fault_of, subcommand_of}
use Rattle.ovs_command_line.specs.declared.command_line.Task.{Task}
use Rattle.ovs_command_line.specs.declared.command_line.Task.TheVariants.{Fold, World, Source, Relay, Help, Version}
use Rattle.ovs_command_line.specs.declared.command_fault.CommandFault.{CommandFault}
use Rattle.ovs_command_line.specs.declared.command_fault.CommandFault.TheVariants.{Usage, Missing, TwoOrigins, BadValue, OneTooMany, OwnAddress, ResyncOfSeveral, NoMemory}
use Rattle.ovs_command_line.specs.CommandLine.{Found, Asks, AskToRun, found_for, is_task, program}
use Rattle.ovs_command_line.specs.Faults.{CanBeRead, HasOptionFault, HaveFault, IsFaultOfRelay}
use Rattle.ovs_command_line.proofs.OptionFaults.{no_option_fault}

found_for_task : (task : Task) → IsTrue (is_task task) → found_for task ≡ []
found_for_task (Fold merge) is = refl
found_for_task World is = refl
found_for_task (Source o) is = refl
found_for_task (Relay o) is = refl
found_for_task (Help text) is = absurd (true≢false (sym is))
found_for_task (Version text) is = absurd (true≢false (sym is))

no_usage : (rows : List Row) (line : _) → ¬ (IsFaultOfRelay rows (Usage line))
no_usage rows line (inl off) = let no : Usage line ≡ NoMemory = off in cc
no_usage rows line (inr off) = off.2

option_fault : (words : List Text) (fault : CommandFault) → fault_of program words ≡ [] → HasOptionFault (subcommand_of program words) fault → HaveFault words fault
option_fault words NoMemory nothing off = tt
option_fault words (Missing o) nothing off = (nothing, off)
option_fault words TwoOrigins nothing off = (nothing, off)
option_fault words (BadValue o word) nothing off = (nothing, off)
option_fault words (OneTooMany word) nothing off = (nothing, off)
option_fault words (OwnAddress a) nothing off = (nothing, off)
option_fault words ResyncOfSeveral nothing off = (nothing, off)
option_fault words (Usage line) nothing (inl off) = absurd off.2.2
option_fault words (Usage line) nothing (inr off) = absurd (no_usage off.0 line off.2)

-- an answer that was made from what is found of the command that is named
module _ (words : List Text) (found : Found) (is : found ≡ subcommand_of program words) where
  pub only_of_matches : fault_of program words ≡ [] → (r : Result Task CommandFault) → IfOk r (λ task. IsTrue (is_task task) × Asks found task)
      → IfOk r (λ task. fault_of program words ≡ found_for task)
  only_of_matches nothing (Ok task) made = subst (λ kinds. fault_of program words ≡ kinds) (sym (found_for_task task made.0)) nothing
  only_of_matches nothing (Err fault) made = tt

  pub asks_of_matches : (r : Result Task CommandFault) → IfOk r (λ task. IsTrue (is_task task) × Asks found task)
      → IfOk r (λ task. IsTrue (is_task task) → AskToRun words task)
  asks_of_matches (Ok task) made = λ _. subst (λ f. Asks f task) is made.1
  asks_of_matches (Err fault) made = tt

  pub fault_of_matches : fault_of program words ≡ [] → (r : Result Task CommandFault) → IfErr r (HasOptionFault found) → IfErr r (HaveFault words)
  fault_of_matches nothing (Ok task) off = tt
  fault_of_matches nothing (Err fault) off = option_fault words fault nothing (subst (λ f. HasOptionFault f fault) is off)

  pub accepted_of_matches : CanBeRead words → (r : Result Task CommandFault) → IfOk r (λ task. IsTrue (is_task task) × Asks found task)
      → IfErr r (HasOptionFault found) → IfOk r (AskToRun words) × IfErr r (λ fault. fault ≡ NoMemory)
  accepted_of_matches readable (Ok task) made off = (subst (λ f. Asks f task) is made.1, tt)
  accepted_of_matches readable (Err fault) made off =
      (tt, no_option_fault (subcommand_of program words) fault readable (subst (λ f. HasOptionFault f fault) is off))
