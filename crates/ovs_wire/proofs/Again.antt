-- The JSON of a message is read as this message again.
use Rattle.std.proofs.Common.{◌≡◌, Some, option_map, refl, ap, ◌∙◌}
use Rattle.serde_json.specs.Data.{Data, null, boolean, number, string, array, object}
use Rattle.ovs_wire.specs.declared.message.Message.{Message}
use Rattle.ovs_wire.specs.declared.message.Message.TheVariants.{Request, Reply, Notice}
use Rattle.ovs_wire.specs.Message.{Spells, json}
use Rattle.ovs_wire.specs.Named.{named}
use Rattle.ovs_wire.specs.Reading.{call_of, message_of}
use Rattle.ovs_wire.proofs.Lists.{list_again}

named_again : (id : Data) → (id ≡ null → ⊥) → named id ≡ Some id
named_again null is = absurd (is refl)
named_again (boolean b) is = refl
named_again (number n) is = refl
named_again (string s) is = refl
named_again (array ds) is = refl
named_again (object ms) is = refl

pub message_again : (m : Message) → Spells (json m) m → message_of (json m) ≡ Some m
message_again (Request method params id) spells =
    ap (λ ps. Some (call_of method ps (named id))) (list_again params)
    ∙ ap (λ n. Some (call_of method params n)) (named_again id spells.2)
message_again (Notice method params) spells = ap (λ ps. Some (Notice method ps)) (list_again params)
message_again (Reply result error id) spells = ap (option_map (Reply result error)) (named_again id spells.5)
