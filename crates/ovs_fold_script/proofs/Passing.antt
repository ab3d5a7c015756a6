-- A second text behind an input that gave no schema.
use Rattle.std.proofs.Common.{◌≡◌, ◌⊎◌, ℕ, ◌∙◌, ap, sym, subst, List, [], ◌∷◌, Option, Some, None, true, false, refl, inl, inr, IfSome}
use Rattle.std.specs.Prelude.{Ok, Err, Result, is_ok}
use Rattle.ovs_types.specs.Schema.{SchemaValue}
use Rattle.ovs_script.specs.Lines.{lines_of, kept}
use Rattle.ovs_script.specs.Texts.{MayHearSecond}
use Rattle.ovs_script.specs.Functions.{state_from}
use Rattle.ovs_script.proofs.OneRun.{second_heard}
use Rattle.ovs_script.specs.declared.refusal.SchemaRefusal.{SchemaRefusal}
use Rattle.ovs_script.specs.FirstLine.{schema_of_line}
use Rattle.ovs_fold_script.specs.declared.fold.Fold.{Fold}
use Rattle.ovs_fold_script.specs.Folding.{fold_functions, fold_rules, beginning, has_schema, stage_after_schema}

-- it is passed over
passed_over : (lines : List (List ℕ)) → has_schema lines ≡ false → fold_functions.is_over (fold_functions.at_second (state_from fold_functions beginning 0 lines)) ≡ true
passed_over [] none = refl
passed_over (line ∷ lines) none = cases (schema_of_line (kept line)) none
  where
    after : Result SchemaValue SchemaRefusal → Fold
    after schema = record { stage = stage_after_schema schema; refused = false }

    over_state : (f : Fold) (n : ℕ) (lines : List (List ℕ)) → fold_functions.is_over f ≡ true → state_from fold_functions f n lines ≡ f
    over_state f n [] over = refl
    over_state f n (line ∷ lines) over = rw over refl

    cases : (schema : Result SchemaValue SchemaRefusal) → is_ok schema ≡ false
        → fold_functions.is_over (fold_functions.at_second (state_from fold_functions (after schema) 1 lines)) ≡ true
    cases (Ok schema) e = absurd (let w : true ≡ false = e in cc)
    cases (Err refusal) e = ap (λ f. fold_functions.is_over (fold_functions.at_second f)) (over_state (after (Err refusal)) 1 lines refl)

never_heard : (input : List ℕ) → has_schema (lines_of input) ≡ false → MayHearSecond fold_rules beginning input → ⊥
never_heard input none heard =
    let both : true ≡ false = sym (passed_over (lines_of input) none) ∙ second_heard fold_functions beginning input heard in
    (let w : true ≡ false = both in cc)

-- what holds unless the second text is heard holds where the input gives no schema
pub not_read : (input : Option (List ℕ)) (Unread : Type 0) (f : Fold) → f ≡ beginning
    → IfSome input (λ text. Unread ⊎ MayHearSecond fold_rules f text)
    → IfSome input (λ text. has_schema (lines_of text) ≡ false → Unread)
not_read None Unread f is unread = tt
not_read (Some text) Unread f is (inl unread) = λ none. unread
not_read (Some text) Unread f is (inr heard) =
    λ none. absurd (never_heard text none (subst (λ (z : Fold). MayHearSecond fold_rules z text) is heard))
