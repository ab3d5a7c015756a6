use Rattle.std.proofs.Common.{◌≡◌, IfSome, ℕ, [], ◌∷◌, Result, Ok, Err, length, sym, ◌∙◌, ap, subst, refl, arith, min}
use Rattle.std.specs.Result.{IsErrAnd}
use Rattle.ovs_wire.specs.Frames.{Ending, Rest, Fault}
use Rattle.ovs_wire.specs.Framing.{Answers}
use Rattle.ovs_wire.specs.declared.error.FrameError.{FrameError}
use Rattle.ovs_wire.specs.declared.error.FrameError.TheVariants.{NoMemory}
use Rattle.ovs_wire.specs.declared.error.MessageError.TheVariants as reading
use Rattle.ovs_wire.specs.declared.message.Message.{Message}
use Rattle.ovs_world.specs.Carrying.{Moves, Receives}
use Rattle.ovs_world.specs.Refusals.{refusal_of}
use Rattle.ovs_world.specs.declared.error.WorldError.TheVariants.{TooLarge}
use Rattle.ovs_world.proofs.Carried.{carries_nothing, passes, passed_this, stopped_large}
use Rattle.ovs_world.proofs.pipe.Pipe.pass.Goals as goal

fault_is : (ending : Ending) (f : FrameError) (r : Result ℕ FrameError) → r ≡ Err f → Answers ending r → ending ≡ Fault f
fault_is (Rest rest) f r is a = absurd (subst (λ (x : Result ℕ FrameError). Answers (Rest rest) x) is a)
fault_is (Fault e) f r is a = ap Fault (subst (λ (x : Result ℕ FrameError). Answers (Fault e) x) is a)

no_memory : (f : FrameError) → TooLarge ≡ refusal_of f → f ≡ NoMemory → ⊥
no_memory f is none = absurd (let e : TooLarge ≡ refusal_of NoMemory = is ∙ ap refusal_of none in cc)

pub returns-in_err-feed-clause-large : goal.returns-in_err-feed-clause-large
returns-in_err-feed-clause-large c is =
    let f = c.in_err-feed.field-0.0 in
    let told : TooLarge ≡ refusal_of f = subst (λ r. IsErrAnd r (λ e. e ≡ refusal_of f)) is c.from_residual-in_err-feed.ensures.1 in
    let other = no_memory f told in
    stopped_large c.args.self.now c.send.new.self c.feed.new.self.framing c.args.message.now c.in_flight.result f c.requires.idle c.in_ok-send.ensures.sent c.in_flight.ensures.value
    (c.in_err-feed.ensures.fault f refl other) (fault_is c.feed.new.self.framing.ending f (Err f) refl (c.in_err-feed.ensures.answer (λ e. other (cc e))))

least : (fed n k : ℕ) → n ≡ k → fed ≡ min n k → fed ≡ k
least fed n k a b = omega (arith, a, b)

pub unreachable-requires : goal.unreachable-requires
unreachable-requires c =
    let whole = passes c.args.self.now c.send.new.self c.feed.new.self c.args.message.now c.in_ok-feed.field-0 c.requires.idle c.in_ok-send.ensures.sent
    (least c.in_ok-feed.field-0 c.in_flight.result (length c.send.new.self.flight) c.in_flight.ensures.value c.in_ok-feed.ensures.moved.1) c.in_ok-feed.ensures.moved.0 (c.in_ok-feed.ensures.answer (λ e. cc)) in
    let none = (c.in-Ok-None.ensures.none (ap Ok c.in-Ok-None.field-0-is)).1 in
    absurd (let e : whole.0 ∷ [] ≡ [] = sym whole.2.waiting ∙ none in cc)

pub unreachable-requires-in-Err-NotJson : goal.unreachable-requires-in-Err-NotJson
unreachable-requires-in-Err-NotJson c =
    let carries = c.in_ok-feed.ensures.carried (c.args.message.now ∷ []) (c.in_ok-send.ensures.carried [] (carries_nothing c.args.self.now c.requires.idle)) in
    absurd (let e : reading.NotJson ≡ reading.NoMemory = c.in-Err-NotJson.ensures.err reading.NotJson (ap Err c.in-Err-NotJson.field-0-is) (c.args.message.now ∷ []) carries in cc)

pub unreachable-requires-in-Err-BadShape : goal.unreachable-requires-in-Err-BadShape
unreachable-requires-in-Err-BadShape c =
    let carries = c.in_ok-feed.ensures.carried (c.args.message.now ∷ []) (c.in_ok-send.ensures.carried [] (carries_nothing c.args.self.now c.requires.idle)) in
    absurd (let e : reading.BadShape ≡ reading.NoMemory = c.in-Err-BadShape.ensures.err reading.BadShape (ap Err c.in-Err-BadShape.field-0-is) (c.args.message.now ∷ []) carries in cc)

pub returns-in-Ok-Some-clause-passed : goal.returns-in-Ok-Some-clause-passed
returns-in-Ok-Some-clause-passed c =
    let whole = passes c.args.self.now c.send.new.self c.feed.new.self c.args.message.now c.in_ok-feed.field-0 c.requires.idle c.in_ok-send.ensures.sent
    (least c.in_ok-feed.field-0 c.in_flight.result (length c.send.new.self.flight) c.in_flight.ensures.value c.in_ok-feed.ensures.moved.1) c.in_ok-feed.ensures.moved.0 (c.in_ok-feed.ensures.answer (λ e. cc)) in
    let received : Receives c.feed.new.self c.in-Ok-Some.message c.receive.new.self =
    subst (λ r. IfSome r (λ (m : Message). Receives c.feed.new.self m c.receive.new.self)) c.in-Ok-Some.field-0-is c.in-Ok-Some.ensures.received in
    let this = passed_this c.args.message.now c.in-Ok-Some.message whole.0 c.feed.new.self c.receive.new.self whole.1 whole.2 whole.3 received in (
      this.0,
      this.1,
      record {
        sent = c.send.new.self;
        sends = c.in_ok-send.ensures.sent;
        fed = c.feed.new.self;
        feeds = subst (λ n. Moves c.send.new.self n c.feed.new.self)
            (least c.in_ok-feed.field-0 c.in_flight.result (length c.send.new.self.flight) c.in_flight.ensures.value c.in_ok-feed.ensures.moved.1) c.in_ok-feed.ensures.moved.0;
        receives = subst (λ (m : Message). Receives c.feed.new.self m c.receive.new.self) this.0 received;
      },
    )
