use Rattle.std.proofs.Common.{rules, List, Option, sym, subst}
use Rattle.std.specs.List.{AllByRecursion}
use Rattle.ovs_links.specs.Store.{Stored}
use Rattle.ovs_world.specs.Nodes.{IsTier}
use Rattle.ovs_world.specs.Worlds.{IsOpen, empty_store}
use Rattle.ovs_world.specs.declared.sim_session.SimSession.{SimSession}
use Rattle.ovs_world.proofs.Faithful.{empty_tier}
use Rattle.ovs_world.proofs.world.World.new.Goals as goal

pub invariant_of-result : goal.invariant_of-result
invariant_of-result c =
    let source = c.in_ok-new.field-0 in
    let relays = c.in_ok-empty_stores.field-0.items in
    record {
      tier = subst (λ (s : Stored). IsTier s relays) (sym c.in_ok-new.ensures.value)
          (subst (IsTier (empty_store c.args.schema.now)) (sym c.in_ok-empty_stores.ensures.value) (empty_tier c.args.schema.now c.args.relays));
      sessions = subst (λ (os : List (Option SimSession)). AllByRecursion (IsOpen source relays) os) (sym c.new-3.ensures.items) tt;
    }

pub returns-clause-value : goal.returns-clause-value
returns-clause-value c = search rules

pub returns-in_err-new-clause-refused : goal.returns-in_err-new-clause-refused
returns-in_err-new-clause-refused c = search rules

pub returns-in_err-empty_stores-clause-refused : goal.returns-in_err-empty_stores-clause-refused
returns-in_err-empty_stores-clause-refused c = search rules

pub returns-clause-count : goal.returns-clause-count
returns-clause-count c = search rules
