-- A client as its fields make it.
use Rattle.std.proofs.Common.{false, ◌≡◌, ◌≤◌, ◌<◌, ℕ, List, ◌++◌, length, map, ap, sym, ◌∙◌, subst}
use Rattle.std.specs.List.{AllByRecursion}
use Rattle.ovs_types.specs.Schema.{SchemaValue}
use Rattle.ovs_links.specs.Absorbing.{folded_by}
use Rattle.ovs_links.specs.declared.step.Step.{Step}
use Rattle.ovs_wire.specs.declared.message.Message.{Message}
use Rattle.ovs_reader.specs.Session.{SessionValue, is_over}
use Rattle.ovs_reader.specs.Turns.{TurnValue, turn, after_turn}
use Rattle.ovs_reader.specs.Telling.{told_some, reached, moved_past, after_some}
use Rattle.ovs_reader.specs.declared.subscription.Subscription.{Subscription}
use Rattle.ovs_reader.proofs.Parts.{all_told, all_past}
use Rattle.ovs_views.specs.Published.{GoesOn, ViewSessionValue}
use Rattle.ovs_service.specs.declared.session_token.AuthorityCall.{AuthorityCall}
use Rattle.ovs_service.specs.declared.pending.Pending.{Pending}
use Rattle.ovs_service.specs.Calls.{AreTasksOf, IsAllTold, most_told, shown_to}
use Rattle.ovs_service.specs.Client.{ClientValue, Hears}
use Rattle.ovs_service.specs.Deeds.{tasks}

abbrev client : ViewSessionValue → ℕ → List AuthorityCall → List Pending → ClientValue
client session session_id calls due = record { session = session; session_id = session_id; calls = calls; due = due }

pub hears_at : (schema : SchemaValue) (message : Message) (old : ClientValue) (session now : ViewSessionValue) (shown : List Step) (session_id : ℕ) (calls : List AuthorityCall)
    (due room new : List Pending) (t : TurnValue)
    → record { session = session; session_id = session_id; calls = calls; due = due } ≡ old → GoesOn schema session.last shown
    → is_over session.session.start (folded_by schema shown) ≡ false
    → t ≡ turn session.session (folded_by schema shown) message → now ≡ shown_to shown (after_turn session.session (folded_by schema shown) message)
    → room ≡ due → (added : List Pending) × AreTasksOf t (tasks added) × (new ≡ room ++ added)
    → Hears schema shown message old (record { session = now; session_id = session_id; calls = calls; due = new })
hears_at schema message old session now shown session_id calls due room new t is goes_on lasts turned after same (added, gives, e) =
    subst (λ (o : ClientValue). Hears schema shown message o (record { session = now; session_id = session_id; calls = calls; due = new })) is (record {
      goes_on = goes_on;
      lasts = lasts;
      added = added;
      gives = subst (λ (made : TurnValue). AreTasksOf made (tasks added)) turned gives;
      after = ap (λ (s : ViewSessionValue). client s session_id calls new) after
          ∙ ap (λ (d : List Pending). client (shown_to shown (after_turn session.session (folded_by schema shown) message)) session_id calls d)
          (e ∙ ap (λ (l : List Pending). l ++ added) same);
    })

-- where one call told fewer than it may, all that is shown is told
pub all_told_at : (schema : SchemaValue) (session : SessionValue) (shown : List Step) (now : ViewSessionValue)
    → now ≡ shown_to shown (after_some most_told session (folded_by schema shown))
    → length (told_some most_told session.monitors (folded_by schema shown).steps) < most_told → IsAllTold now
all_told_at schema session shown now after few =
    let steps = (folded_by schema shown).steps in
    let k = reached most_told session.monitors steps in
    subst IsAllTold (sym after)
    (subst (λ (n : ℕ). AllByRecursion (λ (m : Subscription). n ≤ m.position) (map (moved_past k) session.monitors)) (all_told most_told session.monitors steps few)
    (all_past session.monitors k))
