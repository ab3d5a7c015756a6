-- What a feed answers.
use Rattle.std.proofs.Common.{◌≡◌, Ok, Err, ap, refl, sym}
use Rattle.std.specs.Prelude.{Result, is_some}
use Rattle.ovs_wire.specs.declared.error.FrameError.{FrameError}
use Rattle.ovs_wire.specs.Frames.{Ending, Rest, Fault}
use Rattle.ovs_wire.specs.Framing.{Answers}
use Rattle.ovs_session.specs.Moving.{answered_fault, fault_in, is_fault}

-- a feed answers the fault that it leaves, and one exactly where it leaves one
pub told_fault : {X : Type 0} (ending : Ending) (r : Result X FrameError) → Answers ending r → answered_fault r ≡ fault_in ending
told_fault (Rest rest) (Ok x) h = refl
told_fault (Rest rest) (Err e) h = absurd h
told_fault (Fault fault) (Ok x) h = absurd h
told_fault (Fault fault) (Err e) h = ap (λ f. fault_in (Fault f)) (sym h)

-- a stream has a fault exactly where there is one
pub some_fault : (ending : Ending) → is_some (fault_in ending) ≡ is_fault ending
some_fault (Rest rest) = refl
some_fault (Fault fault) = refl
