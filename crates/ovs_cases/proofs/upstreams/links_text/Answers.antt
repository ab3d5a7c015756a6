use Rattle.std.proofs.Common.{sym, subst, arith}
use Rattle.ovs_links.specs.Sets.{IsOfTables}
use Rattle.ovs_links.proofs.ChainLemmas.{AllOf-at}
use Rattle.ovs_cases.proofs.upstreams.links_text.Goals as goal

pub link_text-requires : goal.link_text-requires
link_text-requires c =
    let of_tables = IsOfTables c.args.schema.now.description.tables in
    record { tables = subst of_tables (sym c.link-item.is) (AllOf-at of_tables c.args.links.now c.link-item.result 0 (omega (arith, c.in-len1.len_at_least)) c.requires.tables) }
