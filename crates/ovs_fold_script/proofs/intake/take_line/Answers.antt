use Rattle.std.proofs.Common.{IfOk, Result, subst}
use Rattle.ovs_types.specs.declared.schema.Schema.{Schema}
use Rattle.ovs_rows.specs.Change.{IsChangeOf}
use Rattle.ovs_links.specs.declared.link.Link.{Link}
use Rattle.ovs_fold_script.specs.declared.words.LineRefusal.{LineRefusal}
use Rattle.ovs_fold_script.proofs.intake.take_line.Goals as goal

pub take_link-requires : goal.take_link-requires
take_link-requires c =
    let read = subst (λ (r : Result Link LineRefusal). IfOk r (λ (l : Link). IsChangeOf c.schema.result.now.description.tables l.change)) c.in-Ok.is c.in_ok-link.ensures.tables in
    record { of_tables = subst (λ (s : Schema). IsChangeOf s.description.tables c.in-Ok.link.change) c.schema.ensures.value read }
