-- What is collected stands behind what was told before.
use Rattle.std.proofs.Common.{◌∙◌, Bool, List, [], ◌∷◌, ◌++◌, Option, map, refl, sym, ap, append_assoc}
use Rattle.ovs_types.specs.Schema.{SchemaValue}
use Rattle.ovs_links.specs.declared.step.Step.{Step}
use Rattle.ovs_wire.specs.declared.message.Message.{Message}
use Rattle.ovs_views.specs.Published.{ViewSessionValue}
use Rattle.ovs_service.specs.Deeds.{Task, ToGive}
use Rattle.ovs_service.specs.Calls.{Call, Collect, Give, IsCollectedBehind}

module _ (schema : SchemaValue) (owes : Bool → List Step → Message → Type 0) where
  pub behind : (before after : List Call) (held : Bool) (taken : List (Option Message)) (start now : ViewSessionValue) (todo : List Task)
      → Give schema owes (before ++ Collect held taken ∷ after) start todo now
      → IsCollectedBehind schema owes before held taken start todo
  behind [] after held taken start now todo (mid, one, rest, (told, owed, is, same), more, whole) = record {
    first = [];
    rest = rest;
    whole = whole ∙ ap (λ (l : List Task). l ++ rest) is;
    at = start;
    shown = (refl, refl);
    told = told;
    owed = owed;
  }
  behind (call ∷ before) after held taken start now todo (mid, one, rest, gives, more, whole) =
      let p = behind before after held taken mid now rest more in
      record {
        first = one ++ p.first;
        rest = p.rest;
        whole = whole ∙ ap (λ (l : List Task). one ++ l) p.whole ∙ sym (append_assoc one p.first (map (ToGive held) taken ++ p.rest));
        at = p.at;
        shown = (mid, one, p.first, gives, p.shown, refl);
        told = p.told;
        owed = p.owed;
      }
