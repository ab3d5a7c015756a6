use Rattle.std.proofs.Common.{[], ◌∷◌, sym, subst}
use Rattle.std.proofs.lemmas.List.Elements.{All-append, All-cons, All-nil}
use Rattle.std.specs.List.{All}
use Rattle.ovs_links.specs.Sets.{IsOfTables}
use Rattle.ovs_links.specs.declared.link.Link.{Link}
use Rattle.ovs_stream_cases.proofs.case.read_links.Goals as goal

pub loop-link-preserved : goal.loop-link-preserved
loop-link-preserved c =
    let tables = c.args.schema.now.description.tables in
    let link : Link = c.in_ok-read_link.field-0 in
    subst (All (IsOfTables tables)) (sym c.in_ok-push.ensures.items)
    (All-append (IsOfTables tables) c.loop-link.links.items (link ∷ []) c.loop-link.invariant (All-cons (IsOfTables tables) link [] c.in_ok-read_link.ensures.tables (All-nil (IsOfTables tables))))
