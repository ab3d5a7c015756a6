use Rattle.std.proofs.Common.{sym, ap, subst}
use Rattle.ovs_rows.specs.Change.{Actions, IsChangeOf}
use Rattle.ovs_links.specs.declared.link.Link.{Link}
use Rattle.ovs_case_lines.proofs.links.read_link.Goals as goal

pub returns-in-Ok-new-clause-tables : goal.returns-in-Ok-new-clause-tables
returns-in-Ok-new-clause-tables c =
    subst (λ (a : Actions). IsChangeOf c.args.schema.now.description.tables a) (sym (ap (λ (l : Link). l.change) c.in-Ok-new.ensures.value)) c.in-Ok.ensures.tables
