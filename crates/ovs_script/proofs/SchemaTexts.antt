-- What the first line of a text says of its schema.
use Rattle.std.proofs.Common.{◌≡◌, ◌∙◌, ℕ, ap, sym, subst, List, [], ◌++◌, Option, Some, None, Result, Err, IfSome}
use Rattle.std.specs.Io.KnownBytes.{Appends, prepend_known}
use Rattle.ovs_types.specs.Schema.{SchemaValue}
use Rattle.ovs_script.specs.declared.refusal.SchemaRefusal.{SchemaRefusal}
use Rattle.ovs_script.specs.FirstLine.{schema_of_line}
use Rattle.ovs_script.specs.Lines.{TakesLine}
use Rattle.ovs_script.specs.Refusal.{schema_line}
use Rattle.ovs_script.specs.SchemaText.{WritesRefusal, schema_of_first, schema_of_text}

-- a line was taken from an empty window and a text
pub line_met : (window : List ℕ) → window ≡ [] → (text rest : Option (List ℕ)) (line : Option (List ℕ)) → TakesLine (prepend_known window text) rest (Some line)
    → (answer : Result SchemaValue SchemaRefusal) → answer ≡ schema_of_line line → IfSome text (λ t. answer ≡ schema_of_text t)
line_met window empty None rest line takes answer is = tt
line_met window empty (Some t) None line takes answer is = absurd takes
line_met window empty (Some t) (Some rest) line takes answer is =
    let first = subst (λ (w : List ℕ). TakesLine (Some (w ++ t)) (Some rest) (Some line)) empty takes in
    is ∙ ap schema_of_line first.2 ∙ sym (ap schema_of_first first.1)

-- a refusal was told
pub refusal_met : (text : Option (List ℕ)) (answer : Result SchemaValue SchemaRefusal) (refusal : SchemaRefusal) (before now : Option (List ℕ)) → answer ≡ Err refusal
    → IfSome text (λ t. answer ≡ schema_of_text t) → Appends before now (schema_line refusal) → IfSome text (λ t. WritesRefusal t before now)
refusal_met None answer refusal before now refused is appends = tt
refusal_met (Some t) answer refusal before now refused is appends = (refusal, sym is ∙ refused, appends)
