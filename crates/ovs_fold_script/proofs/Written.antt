-- What `fold` writes, where the runs of its rules write it.
use Rattle.std.proofs.Common.{◌≡◌, ℕ, ◌∙◌, ap, subst, List, ◌++◌, append_assoc, Option, Some, None, Bool, true, false, cond, IfSome, IsTrue}
use Rattle.std.specs.Io.KnownBytes.{Appends}
use Rattle.ovs_script.specs.Sending.{AppendsBeginning}
use Rattle.ovs_script.specs.RunEnd.{is_whole}
use Rattle.ovs_script.specs.declared.run_end.RunEnd.{RunEnd}
use Rattle.ovs_script.specs.declared.run_end.RunEnd.TheVariants.{Clean, Refused, ReadFault, WriteFault, TurnsSpent, NoMemory}
use Rattle.ovs_script.specs.Said.{WritesOutput}
use Rattle.ovs_script.specs.Texts.{Texts, IsOutput, IsOutputSoFar}
use Rattle.ovs_script.proofs.OneRun.{one_output, so_far_begins}
use Rattle.ovs_fold_script.specs.Folding.{fold_functions, fold_rules, beginning, fold_output, is_clean}

module _ (before now : Option (List ℕ)) where
  -- all of the output is written, and the end tells whether nothing was refused
  record Ends (t : Texts) (end : RunEnd) : Type 0 where
    written : Appends before now (fold_output t)
    told : end ≡ cond (is_clean t) Clean Refused

  ends_with : (t : Texts) (output : List ℕ) (is_content : Bool) → IsOutput fold_rules beginning t output is_content → Appends before now output
      → Ends t (cond is_content Clean Refused)
  ends_with t output is_content all sent =
      let one = one_output fold_functions beginning t output is_content all in
      record {
        written = subst (λ (l : List ℕ). Appends before now l) one.0 sent;
        told = ap (λ b. cond b Clean Refused) one.1;
      }

  ended : (t : Texts) (end : RunEnd) → WritesOutput end (IsOutput fold_rules beginning t) before now → IsTrue (is_whole end) → Ends t end
  ended t Clean (output, all, sent) whole = ends_with t output true all sent
  ended t Refused (output, all, sent) whole = ends_with t output false all sent
  ended t ReadFault wrote whole = absurd (let w : false ≡ true = whole in cc)
  ended t WriteFault wrote whole = absurd (let w : false ≡ true = whole in cc)
  ended t TurnsSpent wrote whole = absurd (let w : false ≡ true = whole in cc)
  ended t NoMemory wrote whole = absurd (let w : false ≡ true = whole in cc)

  pub whole : (texts : Option Texts) (end : RunEnd) → IfSome texts (λ t. WritesOutput end (IsOutput fold_rules beginning t) before now)
      → IsTrue (is_whole end) → IfSome texts (λ t. Appends before now (fold_output t))
  whole None end wrote is = tt
  whole (Some t) end wrote is = (ended t end wrote is).written

  pub status : (texts : Option Texts) (end : RunEnd) → IfSome texts (λ t. WritesOutput end (IsOutput fold_rules beginning t) before now)
      → IsTrue (is_whole end) → IfSome texts (λ t. end ≡ cond (is_clean t) Clean Refused)
  status None end wrote is = tt
  status (Some t) end wrote is = (ended t end wrote is).told

  -- a beginning of what is said so far is a beginning of the output
  pub begun : (texts : Option Texts) → IfSome texts (λ t. (output : List ℕ) × IsOutputSoFar fold_rules beginning t output × AppendsBeginning before now output)
      → IfSome texts (λ t. AppendsBeginning before now (fold_output t))
  begun None so_far = tt
  begun (Some t) (output, is, (rest, (sent, all, cut))) =
      let others = so_far_begins fold_functions beginning t output is in
      (rest ++ others.0, (sent, all, others.1 ∙ ap (λ l. l ++ others.0) cut ∙ append_assoc sent rest others.0))
