use Rattle.std.proofs.Common.{◌≡◌, Result, Ok, Err, Option, ℕ, List, map}
use Rattle.std.specs.Prelude.{IfOk, OnErr}
use Rattle.serde_json.specs.Data.{Data}
use Rattle.serde_json.specs.View.{view}
use Rattle.ovs_wire.specs.declared.message.Message.{Message}
use Rattle.ovs_json.specs.declared.no_memory.NoMemory.{NoMemory}
use Rattle.ovs_authority.specs.Owing.{AsksTo, LeavesOthers}
use Rattle.ovs_lock_desk.specs.declared.lock_state.LockVerb.{LockVerb}
use Rattle.ovs_lock_desk.specs.declared.lock_state.LockVerb.TheVariants as verbs
use Rattle.ovs_desk.specs.RelayDesk.{RelayValue, owing_of}
use Rattle.ovs_desk.specs.Relaying.{AsksByName, Transacts}
use Rattle.ovs_desk.proofs.Owed.{asked, asked_others, transacted, transacted_others, same_others}
use Rattle.ovs_desk.proofs.relay_desk.RelayDeskAuthority.ask.Goals as goal

module _ (session : ℕ) (id : Data) (d e : RelayValue) where
  of_lock : (verb : LockVerb) (name : List ℕ) (r : Result (Option Message) NoMemory) → IfOk r (λ m. AsksByName session verb name id d m e) → IfOk r (λ m. AsksTo (owing_of d session) id m (owing_of e session))
  of_lock verb name (Ok m) k = asked session verb name id d e m k
  of_lock verb name (Err x) k = tt

  others_of_lock : (verb : LockVerb) (name : List ℕ) (r : Result (Option Message) NoMemory) → IfOk r (λ m. AsksByName session verb name id d m e) → OnErr r (e ≡ d) → LeavesOthers session (owing_of d) (owing_of e)
  others_of_lock verb name (Ok m) k same = asked_others session verb name id d e m k
  others_of_lock verb name (Err x) k same = same_others session d e same

  of_transact : (operations : List Data) (r : Result (Option Message) NoMemory) → IfOk r (λ m. Transacts session operations id d m e) → IfOk r (λ m. AsksTo (owing_of d session) id m (owing_of e session))
  of_transact operations (Ok m) k = transacted session operations id d e m k
  of_transact operations (Err x) k = tt

  others_of_transact : (operations : List Data) (r : Result (Option Message) NoMemory) → IfOk r (λ m. Transacts session operations id d m e) → OnErr r (e ≡ d) → LeavesOthers session (owing_of d) (owing_of e)
  others_of_transact operations (Ok m) k same = transacted_others session operations id d e m k
  others_of_transact operations (Err x) k same = same_others session d e same

pub returns-in-Transact-clause-asked : goal.returns-in-Transact-clause-asked
returns-in-Transact-clause-asked c =
    of_transact c.args.session c.args.ask.id c.args.self.now c.transact.new.self (map view c.in-Transact.operations.items) c.transact.result c.transact.ensures.asked

pub returns-in-Transact-clause-others : goal.returns-in-Transact-clause-others
returns-in-Transact-clause-others c =
    others_of_transact c.args.session c.args.ask.id c.args.self.now c.transact.new.self (map view c.in-Transact.operations.items) c.transact.result c.transact.ensures.asked c.transact.ensures.unchanged

pub returns-in-Lock-clause-asked : goal.returns-in-Lock-clause-asked
returns-in-Lock-clause-asked c = of_lock c.args.session c.args.ask.id c.args.self.now c.ask_named.new.self verbs.Lock c.in-Lock.name c.ask_named.result c.ask_named.ensures.asked

pub returns-in-Lock-clause-others : goal.returns-in-Lock-clause-others
returns-in-Lock-clause-others c =
    others_of_lock c.args.session c.args.ask.id c.args.self.now c.ask_named.new.self verbs.Lock c.in-Lock.name c.ask_named.result c.ask_named.ensures.asked c.ask_named.ensures.unchanged

pub returns-in-Steal-clause-asked : goal.returns-in-Steal-clause-asked
returns-in-Steal-clause-asked c =
    of_lock c.args.session c.args.ask.id c.args.self.now c.ask_named-in-Steal.new.self verbs.Steal c.in-Steal.name c.ask_named-in-Steal.result c.ask_named-in-Steal.ensures.asked

pub returns-in-Steal-clause-others : goal.returns-in-Steal-clause-others
returns-in-Steal-clause-others c =
    others_of_lock c.args.session c.args.ask.id c.args.self.now c.ask_named-in-Steal.new.self verbs.Steal c.in-Steal.name c.ask_named-in-Steal.result c.ask_named-in-Steal.ensures.asked
    c.ask_named-in-Steal.ensures.unchanged

pub returns-in-Unlock-clause-asked : goal.returns-in-Unlock-clause-asked
returns-in-Unlock-clause-asked c =
    of_lock c.args.session c.args.ask.id c.args.self.now c.ask_named-in-Unlock.new.self verbs.Unlock c.in-Unlock.name c.ask_named-in-Unlock.result c.ask_named-in-Unlock.ensures.asked

pub returns-in-Unlock-clause-others : goal.returns-in-Unlock-clause-others
returns-in-Unlock-clause-others c =
    others_of_lock c.args.session c.args.ask.id c.args.self.now c.ask_named-in-Unlock.new.self verbs.Unlock c.in-Unlock.name c.ask_named-in-Unlock.result c.ask_named-in-Unlock.ensures.asked
    c.ask_named-in-Unlock.ensures.unchanged
