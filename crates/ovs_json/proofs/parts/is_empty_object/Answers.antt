use Rattle.std.proofs.Common.{◌≡◌, true≢false, List, [], ◌∷◌, length, refl, sym, ap, ◌∙◌, arith}
use Rattle.std.specs.Bool.{Decides}
use Rattle.std.proofs.lemmas.Bool.Decides.{same_from_decides}
use Rattle.serde_json.specs.Data.{object}
use Rattle.serde_json.specs.View.{view, members_view}
use Rattle.serde_json.proofs.Views.{view-Object, Entry}
use Rattle.ovs_json.specs.Parts.{is_empty_object}
use Rattle.ovs_json.proofs.parts.is_empty_object.Goals as goal

empty : (es : List Entry) → Decides (is_empty_object (object (members_view es))) (length es ≡ 0)
empty [] = (λ yes. refl, λ none. refl)
empty (e ∷ es) = (λ yes. absurd (true≢false (sym yes)), λ none. absurd (omega (arith, none)))

pub returns-in-Object : goal.returns-in-Object
returns-in-Object c =
    let members = c.in-Object.members in
    record {
      value = same_from_decides c.is_empty.result (is_empty_object (object (members_view members.entries))) c.is_empty.ensures (empty members.entries)
          ∙ ap is_empty_object (sym (ap view c.in-Object.is ∙ view-Object members));
    }
