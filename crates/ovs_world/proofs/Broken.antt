-- Deliveries that break off.
use Rattle.std.specs.Result.{IsErrAnd}
use Rattle.std.proofs.Common.{◌≡◌, ◌≤◌, ◌+◌, inl, inr, ℕ, Result, Ok, Err, IfOk, IfErr, [], List, length, min, refl, sym, subst, arith}
use Rattle.ovs_links.specs.Store.{Stored}
use Rattle.ovs_wire.specs.declared.message.Message.{Message}
use Rattle.ovs_world.specs.Carrying.{Line, IsFaulty, Moves, Receives}
use Rattle.ovs_world.specs.Deliveries.{Scene, scene, Leads, StopsHearing, StopsHearingAll, BreaksOff, IsScene}
use Rattle.ovs_world.specs.Sessions.{IsNotFed, IsUnheard, IsUnheardNext, with_line}
use Rattle.ovs_world.specs.declared.error.WorldError.{WorldError}
use Rattle.ovs_world.specs.declared.error.WorldError.TheVariants.{BadCount, NoSuchNode, NoSession, IdTaken, RowIdsSpent, EpochsSpent, Full, NotReadOnly, TooLarge, NoMemory}
use Rattle.ovs_world.specs.declared.holding.Taken.{Taken}
use Rattle.ovs_world.specs.declared.sim_session.SimSession.{SimSession}
use Rattle.ovs_world.proofs.Carried.{meets_large}
use Rattle.ovs_world.proofs.Delivered.{did_choke, did_feed}
use Rattle.ovs_world.proofs.Moving.{leads_none, leads_on}

-- what a call refuses with, handed on
pub err_by : {T : Type 0} → (r : Result T WorldError) (f : WorldError) (P : WorldError → Type 0) → IsErrAnd r (λ e. e ≡ f) → P f → IfErr r P
err_by (Ok t) f P is p = tt
err_by (Err e) f P is p = subst P (sym is) p

-- and a fact beside it
pub err_both : {T : Type 0} {Q : Type 0} → (r : Result T WorldError) (f : WorldError) (P : WorldError → Type 0) → IsErrAnd r (λ e. e ≡ f) → P f → Q → IfErr r (λ e. P e × Q)
err_both (Ok t) f P is p q = tt
err_both (Err e) f P is p q = (subst P (sym is) p, q)

pub if_err_weaker : {T : Type 0} {P Q : WorldError → Type 0} (r : Result T WorldError) → ((e : WorldError) → P e → Q e) → IfErr r P → IfErr r Q
if_err_weaker (Ok t) f p = tt
if_err_weaker (Err e) f p = f e p

-- ---- a message that isn't heard

pub unheard_next : (s : SimSession) (m : Message) (line : Line) (e : WorldError) → Receives s.downward m line → IsUnheard (with_line s line) m e → IsUnheardNext s e
unheard_next s m line TooLarge r u = record { message = m; line = line; received = r; asks = u }
unheard_next s m line NoMemory r u = tt
unheard_next s m line BadCount r u = u
unheard_next s m line NoSuchNode r u = u
unheard_next s m line NoSession r u = u
unheard_next s m line IdTaken r u = u
unheard_next s m line RowIdsSpent r u = u
unheard_next s m line EpochsSpent r u = u
unheard_next s m line Full r u = u
unheard_next s m line NotReadOnly r u = u

pub breaks_hearing : (source : Stored) (n fed : ℕ) (a mid : Scene) (e : WorldError) (relays : List Stored) → fed ≤ n → Leads source fed a mid → StopsHearingAll source mid e relays
    → BreaksOff source n a e relays
breaks_hearing source n fed a mid TooLarge relays le leads h =
    record { fed = fed + 0; within = omega (arith, le); at = h.0; moves = leads_on source fed 0 a mid h.0 leads h.1; large = inr h.2; left = h.3 }
breaks_hearing source n fed a mid NoMemory relays le leads h =
    record { fed = fed + 0; within = omega (arith, le); at = h.0; moves = leads_on source fed 0 a mid h.0 leads h.1; left = h.2 }
breaks_hearing source n fed a mid BadCount relays le leads h = h
breaks_hearing source n fed a mid NoSuchNode relays le leads h = h
breaks_hearing source n fed a mid NoSession relays le leads h = h
breaks_hearing source n fed a mid IdTaken relays le leads h = h
breaks_hearing source n fed a mid RowIdsSpent relays le leads h = h
breaks_hearing source n fed a mid EpochsSpent relays le leads h = h
breaks_hearing source n fed a mid Full relays le leads h = h
breaks_hearing source n fed a mid NotReadOnly relays le leads h = h

pub unheard_stops : (source : Stored) (s : SimSession) (relays : List Stored) (e : WorldError) → IsUnheardNext s e → StopsHearing source s relays e relays
unheard_stops source s relays TooLarge u = (u, refl)
unheard_stops source s relays NoMemory u = inl refl
unheard_stops source s relays BadCount u = u
unheard_stops source s relays NoSuchNode u = u
unheard_stops source s relays NoSession u = u
unheard_stops source s relays IdTaken u = u
unheard_stops source s relays RowIdsSpent u = u
unheard_stops source s relays EpochsSpent u = u
unheard_stops source s relays Full u = u
unheard_stops source s relays NotReadOnly u = u

pub stops_later : (source : Stored) (a b : Scene) (e : WorldError) (left : List Stored) → Leads source 0 a b → StopsHearing source b.session b.relays e left → StopsHearingAll source a e left
stops_later source a b TooLarge left leads h = (b, leads, h.0, h.1)
stops_later source a b NoMemory left leads h = (b, leads, h)
stops_later source a b BadCount left leads h = h
stops_later source a b NoSuchNode left leads h = h
stops_later source a b NoSession left leads h = h
stops_later source a b IdTaken left leads h = h
stops_later source a b RowIdsSpent left leads h = h
stops_later source a b EpochsSpent left leads h = h
stops_later source a b Full left leads h = h
stops_later source a b NotReadOnly left leads h = h

-- ---- bytes of which one makes a message above the limits

not_fed_leads : (source : Stored) (relays : List Stored) (t u : SimSession) (counts : Taken) (left : ℕ) (e : WorldError) → u ≡ with_line t u.downward → IsNotFed t left e u
    → (fed : ℕ) × (fed ≤ left) × Leads source fed (scene relays t counts) (scene relays u counts)
not_fed_leads source relays t u counts left TooLarge is h = (left, omega arith, did_choke source relays t u counts left is h)
not_fed_leads source relays t u counts left NoMemory is h = (0, omega arith, subst (λ (x : SimSession). Leads source 0 (scene relays t counts) (scene relays x counts)) (sym h) (leads_none source (scene relays t counts)))
not_fed_leads source relays t u counts left BadCount is h = absurd h
not_fed_leads source relays t u counts left NoSuchNode is h = absurd h
not_fed_leads source relays t u counts left NoSession is h = absurd h
not_fed_leads source relays t u counts left IdTaken is h = absurd h
not_fed_leads source relays t u counts left RowIdsSpent is h = absurd h
not_fed_leads source relays t u counts left EpochsSpent is h = absurd h
not_fed_leads source relays t u counts left Full is h = absurd h
not_fed_leads source relays t u counts left NotReadOnly is h = absurd h

-- whatever the feed answered
pub feed_leads : (source : Stored) (relays : List Stored) (t u : SimSession) (counts : Taken) (left : ℕ) (r : Result ℕ WorldError) → u ≡ with_line t u.downward
    → IfOk r (λ fed. (fed ≡ min left (length t.downward.flight)) × Moves t.downward fed u.downward) → IfErr r (λ e. IsNotFed t left e u)
    → (fed : ℕ) × (fed ≤ left) × Leads source fed (scene relays t counts) (scene relays u counts)
feed_leads source relays t u counts left (Ok k) is ok err = (k, (let e = ok.0 in omega (arith, e)), did_feed source relays t u counts k (let e = ok.0 in omega (arith, e)) is ok.1)
feed_leads source relays t u counts left (Err e) is ok err = not_fed_leads source relays t u counts left e is err

pub breaks_feeding : (source : Stored) (n fed left : ℕ) (a : Scene) (relays after : List Stored) (t u v : SimSession) (counts sums : Taken) (e : WorldError) → fed + left ≡ n
    → Leads source fed a (scene relays t counts) → u ≡ with_line t u.downward → Leads source 0 (scene relays u counts) (scene after v sums) → IsScene source after v → v.downward.framing.waiting ≡ []
    → v.downward.framing.ending ≡ u.downward.framing.ending → IsNotFed t left e u → BreaksOff source n a e after
breaks_feeding source n fed left a relays after t u v counts sums TooLarge all told is heard stands waiting ending h = record {
  fed = fed + left + 0;
  within = omega (arith, all);
  at = scene after v sums;
  moves = leads_on source (fed + left) 0 a (scene relays u counts) (scene after v sums)
      (leads_on source fed left a (scene relays t counts) (scene relays u counts) told (did_choke source relays t u counts left is h)) heard;
  large = inl (meets_large v.downward stands.between.led.messages stands.between.led.carried waiting (subst IsFaulty (sym ending) h.faulty));
  left = refl;
}
breaks_feeding source n fed left a relays after t u v counts sums NoMemory all told is heard stands waiting ending h = record {
  fed = fed + 0;
  within = omega (arith, all);
  at = scene after v sums;
  moves = leads_on source fed 0 a (scene relays u counts) (scene after v sums) (subst (λ (x : SimSession). Leads source fed a (scene relays x counts)) (sym h) told) heard;
  left = inl refl;
}
breaks_feeding source n fed left a relays after t u v counts sums BadCount all told is heard stands waiting ending h = h
breaks_feeding source n fed left a relays after t u v counts sums NoSuchNode all told is heard stands waiting ending h = h
breaks_feeding source n fed left a relays after t u v counts sums NoSession all told is heard stands waiting ending h = h
breaks_feeding source n fed left a relays after t u v counts sums IdTaken all told is heard stands waiting ending h = h
breaks_feeding source n fed left a relays after t u v counts sums RowIdsSpent all told is heard stands waiting ending h = h
breaks_feeding source n fed left a relays after t u v counts sums EpochsSpent all told is heard stands waiting ending h = h
breaks_feeding source n fed left a relays after t u v counts sums Full all told is heard stands waiting ending h = h
breaks_feeding source n fed left a relays after t u v counts sums NotReadOnly all told is heard stands waiting ending h = h
