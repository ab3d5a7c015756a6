use Rattle.std.proofs.Common.{sym, ◌∙◌, subst}
use Rattle.ovs_links.specs.Sets.{IsOfTables}
use Rattle.ovs_follow.specs.UpstreamState.{UpstreamStateValue}
use Rattle.ovs_follow.proofs.OneLink.{only_one}
use Rattle.ovs_follow.proofs.upstream_state.UpstreamState.send.Goals as goal

pub send-requires : goal.send-requires
send-requires g c =
    let of = (only_one (IsOfTables c.args.self.now.up.schema.description.tables) c.args.links c.pop.new.self.items c.in-Some.link
    c.requires.one (sym c.into_vec.ensures.value ∙ c.in-Some.ensures.items) c.requires.tables).0 in
    record { taken = c.self.invariant c.in-Some.link (subst (λ (f : UpstreamStateValue). IsOfTables f.up.schema.description.tables c.in-Some.link) (sym c.self.view_is) of) }
