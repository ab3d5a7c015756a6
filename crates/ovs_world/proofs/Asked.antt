-- A session that was just opened: its first request was answered.
use Rattle.std.proofs.Common.{◌≡◌, ⊎_elim, ℕ, true, false, Option, refl, sym, ◌∙◌, ap, subst, arith}
use Rattle.std.proofs.lemmas.Bool.Decides.{nat_tests}
use Rattle.std.specs.Prelude.{nat_lt}
use Rattle.ovs_links.specs.StepChains.{start_at}
use Rattle.ovs_links.specs.Steps.{FoldedValue}
use Rattle.ovs_reader.specs.Session.{SessionValue, new_session}
use Rattle.ovs_reader.specs.Turns.{turn, after_turn}
use Rattle.ovs_upstream.specs.Hearing.{opening}
use Rattle.ovs_upstream.specs.Requests.{schema_request}
use Rattle.ovs_wire.specs.declared.message.Message.{Message}
use Rattle.ovs_world.specs.Carrying.{IsIdle, Passes, SendsAny}
use Rattle.ovs_world.specs.Sessions.{Asks, IsSilent, Replies, Opens}
use Rattle.ovs_world.specs.declared.sim_session.SimSession.{SimSession}
use Rattle.ovs_world.proofs.Answering.{schema_answered}

never_less : (n : ℕ) → nat_lt n n ≡ false
never_less n = grind (arith, nat_tests)

true_false : true ≡ false → ⊥
true_false e = cc

-- nothing was shown yet, and the session tells the chain that there is
pub begins_here : (f : FoldedValue) (begun : ℕ) → begun ≡ start_at f → nat_lt begun (start_at f) ≡ false
begins_here f begun is = ap (λ (n : ℕ). nat_lt n (start_at f)) is ∙ never_less (start_at f)

module _ (f : FoldedValue) (asked : ℕ) (request : Message) (s t : SimSession) (asks : Asks f s request t) (begins : s.begun ≡ start_at f) (up : s.up ≡ opening f.database.schema asked)
    (reader : s.reader ≡ new_session) (upward : IsIdle s.upward) (downward : IsIdle s.downward) (is : request ≡ schema_request f.database.schema) where
  replied : Replies f s request t → Opens f s.relay s.upstream asked t
  replied replies =
      let answered = schema_answered f new_session refl in
      record {
        ends = (asks.ends.0, asks.ends.1);
        begun = asks.ends.2 ∙ begins;
        up = asks.up ∙ up;
        reader = replies.reader ∙ ap (λ (r : SessionValue). after_turn r f request) reader ∙ ap (after_turn new_session f) is;
        request = s.upward;
        unused = upward;
        passed = subst (λ (m : Message). Passes s.upward m t.upward) is asks.passed;
        upward = asks.arrived;
        before = s.downward;
        idle = downward;
        reply = subst (λ (o : Option Message). SendsAny s.downward o t.downward)
            (ap (λ (r : SessionValue). (turn r f request).out) reader ∙ ap (λ (m : Message). (turn new_session f m).out) is ∙ answered.0) replies.reply;
      }

  pub opens_by : Opens f s.relay s.upstream asked t
  opens_by = ⊎_elim (λ (silent : IsSilent f s t). absurd (true_false (sym silent.behind ∙ begins_here f s.begun begins))) replied asks.answered
