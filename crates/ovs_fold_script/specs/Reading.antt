-- What a link's line says.
use Rattle.std.specs.Prelude.{ℕ, List, Bool, not, ◌&&◌, ◌==◌, ◌^◌, Option, Result, Ok, Err, nat_le, if◌then◌else◌, option_map, option_and_then}
use Rattle.std.specs.Option.{ok_or}
use Rattle.serde_json.specs.Data.{Data}
use Rattle.serde_json.specs.Find.{as_str, as_object}
use Rattle.ovs_json.specs.Parts.{three_items}
use Rattle.ovs_types.specs.Id.{read_id}
use Rattle.ovs_types.specs.Results.{◌>>=◌}
use Rattle.ovs_types.specs.declared.schema.Table.{Table}
use Rattle.ovs_rows.specs.declared.error.ChangeError.{ChangeError}
use Rattle.ovs_rows.specs.Change.{Actions}
use Rattle.ovs_rows.specs.ChangeReading.{read_change}
use Rattle.ovs_links.specs.Link.{LinkValue}
use Rattle.ovs_script.specs.LineJson.{json_of_line, with_json}
use Rattle.ovs_fold_script.specs.declared.words.LineRefusal.{LineRefusal}
use Rattle.ovs_fold_script.specs.declared.words.LineRefusal.TheVariants as link

-- two texts and an object
abbrev pub texts_and_object : Data × Data × Data → Option (List ℕ × List ℕ × Data)
texts_and_object p =
    option_and_then (λ prev. option_and_then (λ id. option_map (λ members. (prev, id, p.2)) (as_object p.2)) (as_str p.1)) (as_str p.0)

-- the texts of two ids, and a change's JSON
abbrev pub parts_of : Data → Option (List ℕ × List ℕ × Data)
parts_of d = option_and_then texts_and_object (three_items d)

abbrev pub change_or_refusal : Result Actions ChangeError → Result Actions LineRefusal
change_or_refusal (Ok change) = Ok change
change_or_refusal (Err fault) = Err (link.BadChange fault)

-- an id of a commit, and not the one before it
abbrev pub are_ends : ℕ → ℕ → Bool
are_ends prev id = nat_le (2 ^ 64) id && not (id == prev)

abbrev pub link_between : ℕ → ℕ → Actions → Result LinkValue LineRefusal
link_between prev id change = if are_ends prev id then Ok (record { prev = prev; id = id; change = change }) else Err link.BadId

abbrev pub link_of_parts : List Table → List ℕ × List ℕ × Data → Result LinkValue LineRefusal
link_of_parts tables parts = do
  prev ← ok_or (read_id parts.0) link.BadId
  id ← ok_or (read_id parts.1) link.BadId
  change ← change_or_refusal (read_change tables parts.2)
  link_between prev id change

abbrev pub link_of_json : List Table → Data → Result LinkValue LineRefusal
link_of_json tables d = ok_or (parts_of d) link.BadShape >>= link_of_parts tables

-- the link that a line gives, or why it is refused before it is taken; None is a line above the limit
abbrev pub link_of_line : List Table → Option (List ℕ) → Result LinkValue LineRefusal
link_of_line tables line = with_json link.BadLine (link_of_json tables) (json_of_line line)
