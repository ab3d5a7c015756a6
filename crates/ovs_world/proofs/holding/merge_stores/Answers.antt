use Rattle.std.proofs.Common.{◌≡◌, ◌∙◌, inr, Result, Ok, Err, ap, refl, sym, subst}
use Rattle.ovs_links.specs.Merging.{MergesAs, IsMergeFork}
use Rattle.ovs_links.specs.Outcomes.{after_merge, merge_answer}
use Rattle.ovs_links.specs.Settling.{KeepsLinks}
use Rattle.ovs_links.specs.Store.{Stored}
use Rattle.ovs_links.specs.declared.answer.MergeError.{MergeError}
use Rattle.ovs_world.specs.Nodes.{LeavesMerge}
use Rattle.ovs_world.specs.declared.error.WorldError.TheVariants.{NoMemory}
use Rattle.ovs_world.proofs.Broken.{err_by}
use Rattle.ovs_world.proofs.Merged.{one_source, room, merged_node, merged_extends}
use Rattle.ovs_world.proofs.holding.merge_stores.Goals as goal

pub unreachable-requires : goal.unreachable-requires
unreachable-requires c =
    let n = c.requires.nodes in
    absurd (c.merge.ensures.source (one_source n.0 c.args.store.now c.args.other.now n.3 n.4 n.1) (subst IsMergeFork (sym (c.in-Err-Fork.is ∙ ap Err c.in-Err-Fork.field-0-is)) tt))

pub unreachable-requires-in-Err-Full : goal.unreachable-requires-in-Err-Full
unreachable-requires-in-Err-Full c =
    let n = c.requires.nodes in
    let full = subst (MergesAs c.args.store.now.links c.args.other.now.links) (c.in-Err-Full.is ∙ ap Err c.in-Err-Full.field-0-is) c.merge.ensures.answer in
    absurd (room n.0 c.args.store.now c.args.other.now n.3 n.4 n.2 full.0 full.1)

pub returns-in_err-settle-clause-node : goal.returns-in_err-settle-clause-node
returns-in_err-settle-clause-node c source node other =
    let new = c.settle.new.self in
    merged_node source c.args.store.now c.args.other.now node other new (subst (λ (m : Stored). KeepsLinks m new) c.in-Ok.ensures.after c.settle.ensures.links) c.settle.ensures.store

pub returns-in_err-settle-clause-extends : goal.returns-in_err-settle-clause-extends
returns-in_err-settle-clause-extends c =
    let n = c.requires.nodes in
    let new = c.settle.new.self in
    merged_extends n.0 c.args.store.now c.args.other.now n.3 n.4 new (subst (λ (m : Stored). KeepsLinks m new) c.in-Ok.ensures.after c.settle.ensures.links) c.settle.ensures.store

pub returns-clause-node : goal.returns-clause-node
returns-clause-node c source node other =
    let new = c.settle.new.self in
    merged_node source c.args.store.now c.args.other.now node other new (subst (λ (m : Stored). KeepsLinks m new) c.in-Ok.ensures.after c.settle.ensures.links) c.settle.ensures.store

pub returns-clause-extends : goal.returns-clause-extends
returns-clause-extends c =
    let n = c.requires.nodes in
    let new = c.settle.new.self in
    merged_extends n.0 c.args.store.now c.args.other.now n.3 n.4 new (subst (λ (m : Stored). KeepsLinks m new) c.in-Ok.ensures.after c.settle.ensures.links) c.settle.ensures.store

pub returns-in_err-settle-clause-memory : goal.returns-in_err-settle-clause-memory
returns-in_err-settle-clause-memory c =
    let s = c.args.store.now in
    let other = c.args.other.now in
    let new = c.settle.new.self in
    let told : merge_answer s.links other.links ≡ Ok tt = c.in-Ok.ensures.exact in
    let keeps = subst (λ (m : Stored). KeepsLinks m new) c.in-Ok.ensures.after c.settle.ensures.links in
    err_by c.from_residual.result NoMemory (λ e. (e ≡ NoMemory) × LeavesMerge c.args.store.now c.args.other.now new) c.from_residual.ensures.1
    (refl, inr (subst (λ (r : Result (Unit {0}) MergeError). KeepsLinks (after_merge s other r) new) (sym told) keeps))
