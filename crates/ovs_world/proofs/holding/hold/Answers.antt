use Rattle.std.proofs.Common.{rules, ◌≡◌, ◌∙◌, [], ◌∷◌, append-nil, List, Result, Err, IfErr, subst}
use Rattle.ovs_links.specs.Chains.{GrowsInto}
use Rattle.ovs_links.specs.Sets.{Holds}
use Rattle.ovs_links.specs.declared.link.Link.{Link}
use Rattle.ovs_links.specs.declared.answer.TakeError.{TakeError}
use Rattle.ovs_world.proofs.Held.{node_stopped, node_taken, never_fork, never_full, keeps_taken, takes_some}
use Rattle.ovs_world.proofs.holding.hold.Goals as goal

refused_by : (r : Result (Unit {0}) TakeError) (e : TakeError) (P : TakeError → Type 0) → r ≡ Err e → IfErr r P → P e
refused_by r e P is all = subst (λ (x : Result (Unit {0}) TakeError). IfErr x P) is all

pub refusal_of-requires : goal.refusal_of-requires
refusal_of-requires c = record {
  memory = λ l by p i.
      (let taken = c.take_all-taken in
      let n = c.requires.node in (
        λ is. never_fork n.0 n.1 (Holds c.args.store.now.links) taken.new.store.links c.args.links.items c.in-Err.error l by p i n.2.within n.3 c.in-Err.ensures.refused is,
        λ is. never_full n.0 n.1 (Holds c.args.store.now.links) taken.new.store.links c.args.links.items c.in-Err.error l n.2.within n.3 c.in-Err.ensures.refused is,
      ));
}

pub returns-in-Err-clause-node : goal.returns-in-Err-clause-node
returns-in-Err-clause-node c source node among =
    let taken = c.take_all-taken in
    node_stopped source c.args.store.now taken.new.store c.settle-settled.new.self c.args.links.items c.in-Err.error node among c.in-Err.ensures.refused
    taken.ensures.schema c.settle-settled.ensures.links c.settle-settled.ensures.store

pub returns-in-Err-settled-clause-node : goal.returns-in-Err-settled-clause-node
returns-in-Err-settled-clause-node c source node among =
    node_taken source c.args.store.now c.take_all-taken.new.store c.settle-settled.new.self c.args.links.items node among c.in-Ok.ensures.links
    c.take_all-taken.ensures.schema c.settle-settled.ensures.links c.settle-settled.ensures.store

pub returns-clause-node : goal.returns-clause-node
returns-clause-node c source node among =
    node_taken source c.args.store.now c.take_all-taken.new.store c.settle-settled.new.self c.args.links.items node among c.in-Ok.ensures.links
    c.take_all-taken.ensures.schema c.settle-settled.ensures.links c.settle-settled.ensures.store

pub returns-in-Err-clause-extends : goal.returns-in-Err-clause-extends
returns-in-Err-clause-extends c = record {
  schema = c.settle-settled.ensures.links.schema ∙ c.take_all-taken.ensures.schema;
  store = c.settle-settled.ensures.store;
  keeps = keeps_taken c.args.store.now c.take_all-taken.new.store c.settle-settled.new.self c.in-Err.ensures.refused.before c.in-Err.ensures.refused.held c.settle-settled.ensures.links;
  grows = subst (λ (ls : List Link). GrowsInto ls c.settle-settled.new.self.folded) c.take_all-taken.ensures.folded c.settle-settled.ensures.links.grows;
}

pub returns-clause-held : goal.returns-clause-held
returns-clause-held c = search rules

pub returns-in-Err-clause-some : goal.returns-in-Err-clause-some
returns-in-Err-clause-some c =
    let at = c.in-Err.ensures.refused in
    takes_some c.args.store.now c.take_all-taken.new.store c.settle-settled.new.self at.before (at.link ∷ at.behind) c.args.links.items at.place at.held c.settle-settled.ensures.links

pub returns-in-Err-settled-clause-some : goal.returns-in-Err-settled-clause-some
returns-in-Err-settled-clause-some c =
    takes_some c.args.store.now c.take_all-taken.new.store c.settle-settled.new.self c.args.links.items [] c.args.links.items (append-nil c.args.links.items) c.in-Ok.ensures.links c.settle-settled.ensures.links

pub returns-clause-some : goal.returns-clause-some
returns-clause-some c =
    takes_some c.args.store.now c.take_all-taken.new.store c.settle-settled.new.self c.args.links.items [] c.args.links.items (append-nil c.args.links.items) c.in-Ok.ensures.links c.settle-settled.ensures.links
