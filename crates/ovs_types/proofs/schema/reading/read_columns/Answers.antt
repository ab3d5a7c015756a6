use Rattle.std.proofs.Common.{◌≡◌, Ok, ap, ◌∙◌, sym}
use Rattle.serde_json.specs.View.{members_view}
use Rattle.ovs_json.specs.FirstFault.{items_of}
use Rattle.ovs_types.specs.SchemaReading.{read_named_column, read_columns}
use Rattle.ovs_types.proofs.SchemaLaws.{names_ascend, are_names, column_name}
use Rattle.ovs_types.proofs.schema.reading.read_columns.Goals as goal

pub new-requires : goal.new-requires
new-requires c =
    let members = c.args.members.now.entries in
    let items = c.in-Ok.columns.items in
    let read : Ok items ≡ read_columns (members_view members) = sym (ap items_of c.in-Ok.is) ∙ c.in_ok-columns.ensures.exact in
    record {
      ascending = names_ascend (λ x. x.name) read_named_column column_name members items c.in_ok-columns.ensures.ordered read;
      names = are_names (λ x. x.name) read_named_column column_name members items read;
    }
