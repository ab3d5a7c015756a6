use Rattle.std.proofs.Common.{◌≡◌, ◌∷◌, List, Option, Some, Err, IfSome, ap, subst}
use Rattle.ovs_wire.specs.declared.error.MessageError.TheVariants as reading
use Rattle.ovs_wire.specs.declared.message.Message.{Message}
use Rattle.ovs_world.specs.Carrying.{Line, Carries, Receives}
use Rattle.ovs_world.specs.Sessions.{IsUnheardNext}
use Rattle.ovs_world.proofs.Broken.{err_by, unheard_next}
use Rattle.ovs_world.proofs.Led.{led_first, led_next, led_over}
use Rattle.ovs_world.proofs.sim_session.SimSession.hear_next.Goals as goal

abbrev Gives : Line → Line → Message → Type 0
Gives old new m = (messages : List Message) → Carries old messages → (more : List Message) × (messages ≡ m ∷ more) × Carries new more

given : (old new : Line) (r : Option Message) (m : Message) → r ≡ Some m → IfSome r (Gives old new) → Gives old new m
given old new r m is all = subst (λ (x : Option Message). IfSome x (Gives old new)) is all

received : (old new : Line) (r : Option Message) (m : Message) → r ≡ Some m → IfSome r (λ x. Receives old x new) → Receives old m new
received old new r m is all = subst (λ (x : Option Message). IfSome x (λ y. Receives old y new)) is all

pub unreachable-requires : goal.unreachable-requires
unreachable-requires c =
    let led = c.requires.led.1 in
    absurd (let e : reading.NotJson ≡ reading.NoMemory = c.in-Err-NotJson.ensures.err reading.NotJson (ap Err c.in-Err-NotJson.field-0-is) led.messages led.carried in cc)

pub unreachable-requires-in-Err-BadShape : goal.unreachable-requires-in-Err-BadShape
unreachable-requires-in-Err-BadShape c =
    let led = c.requires.led.1 in
    absurd (let e : reading.BadShape ≡ reading.NoMemory = c.in-Err-BadShape.ensures.err reading.BadShape (ap Err c.in-Err-BadShape.field-0-is) led.messages led.carried in cc)

pub hear-requires-clause-hears : goal.hear-requires-clause-hears
hear-requires-clause-hears c =
    let source = c.requires.led.0 in
    let led = c.requires.led.1 in
    let s = c.args.self.now in
    let first = given s.downward c.receive.new.self c.in-Ok-Some.field-0 c.in-Ok-Some.message c.in-Ok-Some.field-0-is c.in-Ok-Some.ensures.some led.messages led.carried in
    let next = led_first source c.args.node.now s c.in-Ok-Some.message first.0 led first.1 in
    (next.0, next.1.is)

pub hear-requires-clause-begun : goal.hear-requires-clause-begun
hear-requires-clause-begun c = led_over c.requires.led.0 c.args.node.now c.args.self.now c.requires.led.1

pub returns-clause-heard : goal.returns-clause-heard
returns-clause-heard c = record {
  message = c.in-Ok-Some.message;
  line = c.receive.new.self;
  received = received c.args.self.now.downward c.receive.new.self c.in-Ok-Some.field-0 c.in-Ok-Some.message c.in-Ok-Some.field-0-is c.in-Ok-Some.ensures.received;
  hears = c.in_ok-hear.ensures.heard;
}

pub returns-clause-led : goal.returns-clause-led
returns-clause-led c source is_node led =
    let s = c.args.self.now in
    let first = given s.downward c.receive.new.self c.in-Ok-Some.field-0 c.in-Ok-Some.message c.in-Ok-Some.field-0-is c.in-Ok-Some.ensures.some led.messages led.carried in
    led_next source c.args.node.now is_node s c.hear.new.self c.in-Ok-Some.message c.receive.new.self first.0 c.in_ok-hear.field-0.items led first.1 first.2
    c.in_ok-hear.ensures.heard c.in_ok-hear.ensures.asked c.in_ok-hear.ensures.shown

pub returns-in_err-hear-clause-refused : goal.returns-in_err-hear-clause-refused
returns-in_err-hear-clause-refused c =
    let s = c.args.self.now in
    let m = c.in-Ok-Some.message in
    let line = c.receive.new.self in
    err_by c.from_residual.result c.in_err-hear.field-0.0 (IsUnheardNext s) c.from_residual.ensures.1
    (unheard_next s m line c.in_err-hear.field-0.0 (received s.downward line c.in-Ok-Some.field-0 m c.in-Ok-Some.field-0-is c.in-Ok-Some.ensures.received) c.in_err-hear.ensures.refused)
