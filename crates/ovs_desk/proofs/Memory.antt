-- What takes memory of a relay's desk.
use Rattle.std.proofs.Common.{◌≡◌, ◌||◌, ℕ, List, [], ◌∷◌, Bool, true, false, cond, Some, None, Result, Ok, Err, refl, sym, ap, ◌∙◌}
use Rattle.std.specs.Prelude.{◌≢◌, OnErr, is_some, filter, option_map}
use Rattle.std.specs.List.{find}
use Rattle.ovs_lock_desk.specs.RelayLock.{enters, AnswersBy}
use Rattle.ovs_lock_desk.specs.LockDesk.{DeskValue, relay_lock_at, refusal_at}
use Rattle.ovs_lock_desk.specs.declared.lock_state.LockVerb.{LockVerb}
use Rattle.ovs_lock_desk.specs.declared.error.DeskError.{DeskError}
use Rattle.ovs_lock_desk.specs.declared.error.DeskError.TheVariants as errors
use Rattle.ovs_desk.specs.declared.forwarded.Forwarded.{Forwarded}
use Rattle.ovs_desk.specs.declared.forwarded.RequestFilter.TheVariants.{Due}
use Rattle.ovs_desk.specs.Ledger.{Ledger, is_lost, passes, lost_to}
use Rattle.ovs_desk.specs.RelayDesk.{RelayValue}
use Rattle.ovs_desk.specs.Relaying.{lock_takes_memory}

pub on_err : {X E : Type 0} (P : Type 0) (r : Result X E) → P → OnErr r P
on_err P (Ok x) p = tt
on_err P (Err e) p = p

-- ---- what is asked

or_left : (a b : Bool) → a ≡ true → a || b ≡ true
or_left true b h = refl
or_left false b h = absurd cc

or_right : (a b : Bool) → b ≡ true → a || b ≡ true
or_right true b h = refl
or_right false b h = h

-- where a lock is asked for
pub entered : (session : ℕ) (verb : LockVerb) (name : List ℕ) (l : DeskValue) → enters verb ≡ true → lock_takes_memory session verb name l ≡ true
entered session verb name l h = or_left (enters verb) (is_some (refusal_at l.has_source verb session name l.locks)) h

module _ (session : ℕ) (verb : LockVerb) (name : List ℕ) (l : DeskValue) where
  refused : (error : DeskError) → refusal_at l.has_source verb session name l.locks ≡ Some error → lock_takes_memory session verb name l ≡ true
  refused error is = or_right (enters verb) (is_some (refusal_at l.has_source verb session name l.locks)) (ap is_some is)

  -- where it is refused, or memory was
  pub not_done : (error : DeskError) → AnswersBy (refusal_at l.has_source verb session name l.locks) verb (relay_lock_at name l.locks) (Err error) → lock_takes_memory session verb name l ≡ true
  not_done errors.NoMemory k = entered session verb name l k.1
  not_done errors.BadLock k = refused errors.BadLock k
  not_done errors.AlreadyAsked k = refused errors.AlreadyAsked k
  not_done errors.NeverAsked k = refused errors.NeverAsked k
  not_done errors.SourceLost k = refused errors.SourceLost k
  not_done errors.StealPending k = refused errors.StealPending k
  not_done errors.TooMany k = refused errors.TooMany k

-- ---- what is given

pub lost_came : (session : ℕ) (l : Ledger) → lost_to session l ≡ Some true → lost_to session l ≢ Some false
lost_came session l lost came = let clash : Some true ≡ Some false = sym lost ∙ came in cc

none_in : (p : Forwarded → Bool) (es : List Forwarded) → filter p es ≡ [] → find p es ≡ None
none_in p [] h = refl
none_in p (e ∷ es) h = by (p e) h (none_in p es)
  where
    by : (b : Bool) → cond b (e ∷ filter p es) (filter p es) ≡ [] → (filter p es ≡ [] → find p es ≡ None) → cond b (Some e) (find p es) ≡ None
    by true h more = absurd cc
    by false h more = more h

-- where none is due, none came
pub none_came : (session : ℕ) (d mid : RelayValue) → mid ≡ d → filter (passes (Due session)) mid.forwards.ledger.pending ≡ [] → lost_to session d.forwards.ledger ≢ Some false
none_came session d mid same none came =
    let left = ap (λ (x : RelayValue). filter (passes (Due session)) x.forwards.ledger.pending) (sym same) ∙ none in
    let clash : None ≡ Some false = sym (ap (option_map (λ (e : Forwarded). is_lost e.state)) (none_in (passes (Due session)) d.forwards.ledger.pending left)) ∙ came in
    cc
