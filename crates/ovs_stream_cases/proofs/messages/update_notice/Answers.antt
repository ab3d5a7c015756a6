use Rattle.std.proofs.Common.{sym, subst}
use Rattle.std.specs.Prelude.{string_bytes}
use Rattle.serde_json.specs.View.{view}
use Rattle.ovs_rows.specs.Change.{Actions, IsChangeOf}
use Rattle.ovs_stream_cases.proofs.LawfulSaid.{told_by}
use Rattle.ovs_stream_cases.proofs.messages.update_notice.Goals as goal

pub to_json-requires : goal.to_json-requires
to_json-requires c = subst (λ (a : Actions). IsChangeOf c.args.schema.now.description.tables a) (sym c.change.ensures.value) c.requires.tables

pub returns-clause-told : goal.returns-clause-told
returns-clause-told c =
    told_by c.args.schema.now.description.tables c.args.link.now c.id.result (string_bytes c.in_ok-to_text.field-0) c.change.result.now (view c.in_ok-to_json.field-0) c.id.ensures.value
    c.in_ok-to_text.ensures.text c.in_ok-to_text.ensures.again c.change.ensures.value c.in_ok-to_json.ensures.value c.in_ok-to_json.ensures.reads_back
