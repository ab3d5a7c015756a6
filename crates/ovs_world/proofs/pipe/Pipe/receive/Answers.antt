use Rattle.std.proofs.Common.{◌≡◌, ◌∷◌, List, drop, sym, subst, Err}
use Rattle.std.specs.Result.{IsErrAnd}
use Rattle.ovs_wire.specs.declared.error.MessageError.{MessageError}
use Rattle.ovs_wire.specs.declared.message.Message.{Message}
use Rattle.ovs_wire.specs.Framing.{Framing, without_first}
use Rattle.ovs_wire.specs.Message.{Reads}
use Rattle.ovs_world.specs.Carrying.{Line, Carries}
use Rattle.ovs_world.proofs.Carried.{carries_taken, took_this, says_no_other_error}
use Rattle.ovs_world.proofs.pipe.Pipe.receive.Goals as goal

pub returns-in_err-read-clause-err : goal.returns-in_err-read-clause-err
returns-in_err-read-clause-err c e is messages carries =
    let framer = c.self.inside.framer in
    let text = c.in-Some.text.now in
    let took = carries_taken framer (without_first framer) (drop c.self.inside.fed c.self.inside.sent.items) text messages
    (subst (λ (l : Line). Carries l messages) (sym c.self.view_is) carries) c.in-Some.ensures.some in
    let from : e ≡ c.in_err-read.field-0.0 = subst (λ r. IsErrAnd r (λ e. e ≡ c.in_err-read.field-0.0)) is c.from_residual.ensures.1 in
    let reads : Reads text (Err e) = subst (λ (e : MessageError). Reads text (Err e)) (sym from) c.in_err-read.ensures.reads in
    says_no_other_error text took.first e took.says reads

pub returns-clause-some : goal.returns-clause-some
returns-clause-some c messages carries =
    let framer = c.self.inside.framer in
    let flight = drop c.self.inside.fed c.self.inside.sent.items in
    let text = c.in-Some.text.now in
    let m = c.in_ok-read.field-0 in
    let took = carries_taken framer (without_first framer) flight text messages
    (subst (λ (l : Line). Carries l messages) (sym c.self.view_is) carries) c.in-Some.ensures.some in
    subst (λ (f : Framing). (more : List Message) × (messages ≡ m ∷ more) × Carries (record { framing = f; flight = flight }) more)
    (sym c.next.follows.holds-at-none) (took_this _ text messages m took c.in_ok-read.ensures.reads)
