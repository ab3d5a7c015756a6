-- What becomes of a lock by one session, and what it leaves to the others.
use Rattle.std.proofs.Common.{◌≡◌, ℕ, List, [], ◌∷◌, ◌++◌, Bool, true, false, cond, ◌||◌, ◌&&◌, Some, None, refl, sym, ap, ◌∙◌}
use Rattle.std.specs.Prelude.{◌≢◌, ◌==◌, not, is_some, option_map}
use Rattle.std.specs.List.{list_any}
use Rattle.std.proofs.lemmas.Bool.{eqb-true, eq-eqb, ne_eqb}
use Rattle.std.proofs.lemmas.List.Folds.{list_any-append}
use Rattle.ovs_locks.specs.declared.waiter.Waiter.{Waiter}
use Rattle.ovs_locks.specs.declared.waiter.Asking.{Asking}
use Rattle.ovs_locks.specs.declared.waiter.Asking.TheVariants as asks
use Rattle.ovs_locks.specs.Lock.{LockValue, no_lock, waiter, is_who, is_in, first_who, owner, stands, appended, stolen_from, robbed, asked, dropped, granted, is_first, without, awaits, is_due, first_due, is_owed, mark, told_one, heard, after_telling, told_first, heard_first, after_one}
use Rattle.ovs_locks.proofs.NextNotice.{one_heard}
use Rattle.ovs_locks.proofs.Relisting.{Moves}
use Rattle.ovs_locks.proofs.Tables.{left}
use Rattle.ovs_locks.proofs.Standing.{appended_alone, stolen_alone, without_alone}

another : (session x : ℕ) → x ≢ session → (session == x) ≡ false
another session x apart = ne_eqb session x (λ e. apart (sym e))

-- ---- marks

abbrev any : (Waiter → Bool) → LockValue → Bool
any p l = list_any p l.queue || list_any p l.stolen

-- a test that only this session passes
abbrev About : ℕ → (Waiter → Bool) → Type 0
About x p = (a : Waiter) → (a.session == x) ≡ false → p a ≡ false

about_awaits : (x : ℕ) → About x (awaits x)
about_awaits x a e = rw e refl

due_any : (x : ℕ) (xs : List Waiter) → is_due (first_due x xs) ≡ list_any (awaits x) xs
due_any x [] = refl
due_any x (a ∷ xs) = by (awaits x a) refl (due_any x xs)
  where
    due : (c d : Bool) → (c && d) ≡ true → d ≡ true
    due true d e = e
    due false d e = absurd cc

    by : (b : Bool) → awaits x a ≡ b → is_due (first_due x xs) ≡ list_any (awaits x) xs → is_due (cond b a.owed (first_due x xs)) ≡ (b || list_any (awaits x) xs)
    by true e rest = due (a.session == x) (is_due a.owed) e
    by false e rest = rest

owed_any : (x : ℕ) (l : LockValue) → is_owed x l ≡ any (awaits x) l
owed_any x l = rw (due_any x l.queue, due_any x l.stolen) refl

pub mark_same : (x : ℕ) (l m : LockValue) → ((p : Waiter → Bool) → About x p → any p m ≡ any p l) → mark x m ≡ mark x l
mark_same x l m same =
    let s : stands x m ≡ stands x l = same (is_who x) (λ a e. e) in
    let o : is_owed x m ≡ is_owed x l = owed_any x m ∙ same (awaits x) (about_awaits x) ∙ sym (owed_any x l) in
    ap (λ (b : Bool). cond b (Some (is_owed x m)) None) s ∙ ap (λ (b : Bool). cond (stands x l) (Some b) None) o

pub no_mark : (x : ℕ) (l : LockValue) → stands x l ≡ false → mark x l ≡ None
no_mark x l e = ap (λ (b : Bool). cond b (Some (is_owed x l)) None) e

pub marked_stands : (x : ℕ) (l : LockValue) → is_some (mark x l) ≡ stands x l
marked_stands x l = by (stands x l)
  where
    by : (b : Bool) → is_some (cond b (Some (is_owed x l)) None) ≡ b
    by true = refl
    by false = refl

pub not_marked : (x : ℕ) (l : LockValue) → mark x l ≡ None → stands x l ≡ false
not_marked x l e = sym (marked_stands x l) ∙ ap is_some e

pub mark_is : (x : ℕ) (l : LockValue) (b : Bool) → mark x l ≡ Some b → is_owed x l ≡ b
mark_is x l b e = by (stands x l) e
  where
    by : (s : Bool) → cond s (Some (is_owed x l)) None ≡ Some b → is_owed x l ≡ b
    by true e = cc
    by false e = absurd cc

-- ---- lists

module _ (x : ℕ) (p : Waiter → Bool) (about : About x p) where
  any_last : (xs : List Waiter) (a : Waiter) → (a.session == x) ≡ false → list_any p (xs ++ a ∷ []) ≡ list_any p xs
  any_last xs a e = list_any-append p xs (a ∷ []) ∙ rw (about a e) (or_false (list_any p xs))
    where
      or_false : (b : Bool) → (b || false) ≡ b
      or_false true = refl
      or_false false = refl

  any_dropped : (session : ℕ) → x ≢ session → (xs : List Waiter) → list_any p (dropped session xs) ≡ list_any p xs
  any_dropped session apart [] = refl
  any_dropped session apart (a ∷ xs) = by (a.session == session) refl (any_dropped session apart xs)
    where
      by : (b : Bool) → (a.session == session) ≡ b → list_any p (dropped session xs) ≡ list_any p xs
          → list_any p (cond (not b) (a ∷ dropped session xs) (dropped session xs)) ≡ (p a || list_any p xs)
      by true e rest = rw (about a (ap (λ (w : ℕ). w == x) (eqb-true a.session session e) ∙ another session x apart)) rest
      by false e rest = ap (λ (b : Bool). p a || b) rest

  any_granted : (now : Bool) (xs : List Waiter) → first_who xs ≢ Some x → list_any p (granted now xs) ≡ list_any p xs
  any_granted now [] apart = refl
  any_granted false (a ∷ xs) apart = refl
  any_granted true (a ∷ xs) apart =
      let other : (a.session == x) ≡ false = ne_eqb a.session x (λ e. apart (ap Some e)) in
      rw (about (record { session = a.session; owed = _ }) other, about a other) refl

  any_heard : (session : ℕ) → x ≢ session → (xs : List Waiter) → list_any p (heard session xs) ≡ list_any p xs
  any_heard session apart [] = refl
  any_heard session apart (a ∷ xs) = by (a.session == session) refl (any_heard session apart xs)
    where
      by : (b : Bool) → (a.session == session) ≡ b → list_any p (heard session xs) ≡ list_any p xs → (p (cond b (waiter session) a) || list_any p (heard session xs)) ≡ (p a || list_any p xs)
      by true e rest = rw (about (waiter session) (another session x apart), about a (ap (λ (w : ℕ). w == x) (eqb-true a.session session e) ∙ another session x apart)) rest
      by false e rest = ap (λ (b : Bool). p a || b) rest

  any_first : (session : ℕ) → x ≢ session → (xs : List Waiter) → list_any p (heard_first session xs) ≡ list_any p xs
  any_first session apart [] = refl
  any_first session apart (a ∷ xs) = by (awaits session a) refl (any_first session apart xs)
    where
      its : (c d : Bool) → (c && d) ≡ true → c ≡ true
      its true d e = refl
      its false d e = absurd cc

      by : (b : Bool) → awaits session a ≡ b → list_any p (heard_first session xs) ≡ list_any p xs
          → list_any p (cond b (told_first a ∷ xs) (a ∷ heard_first session xs)) ≡ (p a || list_any p xs)
      by true e rest =
          let other : (a.session == x) ≡ false = ap (λ (w : ℕ). w == x) (eqb-true a.session session (its (a.session == session) (is_due a.owed) e)) ∙ another session x apart in
          rw (about (told_first a) other, about a other) refl
      by false e rest = ap (λ (b : Bool). p a || b) rest

  any_stolen : (session : ℕ) → x ≢ session → (queue stolen : List Waiter) → first_who queue ≢ Some x → any p (stolen_from session queue stolen) ≡ (list_any p queue || list_any p stolen)
  any_stolen session apart [] stolen first = rw (about (waiter session) (another session x apart)) refl
  any_stolen session apart (a ∷ later) stolen first =
      let other : (a.session == x) ≡ false = ne_eqb a.session x (λ e. first (ap Some e)) in
      rw (about (waiter session) (another session x apart), about a other) (ap (λ (b : Bool). list_any p later || b) (any_last stolen (robbed a) other))

  any_asked : (how : Asking) (session : ℕ) → x ≢ session → (l : LockValue) → owner l ≢ Some x → any p (asked how session l) ≡ any p l
  any_asked asks.Lock session apart l first = ap (λ (b : Bool). b || list_any p l.stolen) (any_last l.queue (waiter session) (another session x apart))
  any_asked asks.Steal session apart l first = any_stolen session apart l.queue l.stolen first

first_granted : (now : Bool) (xs : List Waiter) → first_who (granted now xs) ≡ first_who xs
first_granted now [] = refl
first_granted true (a ∷ xs) = refl
first_granted false (a ∷ xs) = refl

-- ---- what one session does

alone_by : (session : ℕ) (l m : LockValue) → ((x : ℕ) → x ≢ session → stands x l ≡ false → stands x m ≡ false) → (x : ℕ) → x ≢ session → mark x l ≡ None → mark x m ≡ None
alone_by session l m stay x apart e = no_mark x m (stay x apart (not_marked x l e))

pub asked_moves : (how : Asking) (session : ℕ) (l : LockValue) → Moves mark no_lock session (owner l) l (asked how session l)
asked_moves how session l = record {
  alone = alone_by session l (asked how session l) (λ x apart e. stay how x apart e);
  apart = λ x apart near. mark_same x l (asked how session l) (λ p about. any_asked x p about how session apart l near);
}
  where
    stay : (how : Asking) (x : ℕ) → x ≢ session → stands x l ≡ false → stands x (asked how session l) ≡ false
    stay asks.Lock x apart e = appended_alone session x apart l e
    stay asks.Steal x apart e = stolen_alone session x apart l e

pub without_moves : (session : ℕ) (l : LockValue) → Moves mark no_lock session (owner (without session l)) l (without session l)
without_moves session l = record {
  alone = alone_by session l (without session l) (λ x apart e. without_alone session x l e);
  apart = λ x apart near. mark_same x l (without session l) (λ p about.
      let first : first_who (dropped session l.queue) ≢ Some x = λ e. near (first_granted (is_first session l.queue) (dropped session l.queue) ∙ e) in
      ap (λ (b : Bool). b || list_any p (dropped session l.stolen)) (any_granted x p about (is_first session l.queue) (dropped session l.queue) first ∙ any_dropped x p about session apart l.queue)
      ∙ ap (λ (b : Bool). list_any p l.queue || b) (any_dropped x p about session apart l.stolen));
}

pub told_apart : (session : ℕ) (l : LockValue) (x : ℕ) → x ≢ session → mark x (after_telling session l) ≡ mark x l
told_apart session l x apart = mark_same x l (after_telling session l) (λ p about.
    ap (λ (b : Bool). b || list_any p (heard session l.stolen)) (any_heard x p about session apart l.queue) ∙ ap (λ (b : Bool). list_any p l.queue || b) (any_heard x p about session apart l.stolen))

pub one_moves : (session : ℕ) (l : LockValue) → Moves mark no_lock session None l (after_one session l)
one_moves session l = record {
  alone = λ x apart e. alone_by session l (after_one session l) (λ y ne s. (one_heard session l).same_standing y ∙ s) x apart e;
  apart = λ x apart near. mark_same x l (after_one session l) (λ p about. ap (λ (b : Bool). b || list_any p (after_one session l).stolen) (any_first x p about session apart l.queue) ∙ by x p about apart (is_due (first_due session l.queue)));
}
  where
    by : (x : ℕ) (p : Waiter → Bool) → About x p → x ≢ session → (b : Bool) → (list_any p l.queue || list_any p (cond b l.stolen (heard_first session l.stolen))) ≡ (list_any p l.queue || list_any p l.stolen)
    by x p about apart true = refl
    by x p about apart false = ap (λ (b : Bool). list_any p l.queue || b) (any_first x p about session apart l.stolen)

-- ---- the mark of the session itself

own : (session : ℕ) → (session == session) ≡ true
own session = eq-eqb session session refl

pub both_not : (a b : Bool) → (a || b) ≡ false → (a ≡ false) × (b ≡ false)
both_not true b e = absurd cc
both_not false b e = (refl, e)

none_awaits : (session : ℕ) (xs : List Waiter) → is_in session xs ≡ false → list_any (awaits session) xs ≡ false
none_awaits session [] e = refl
none_awaits session (a ∷ xs) e =
    let n = both_not (a.session == session) (is_in session xs) e in
    rw (about_awaits session a n.0) (none_awaits session xs n.1)

asker_awaits : (session : ℕ) → awaits session (waiter session) ≡ false
asker_awaits session = rw (own session) refl

in_last : (session : ℕ) (xs : List Waiter) → is_in session (xs ++ waiter session ∷ []) ≡ true
in_last session [] = rw (own session) refl
in_last session (a ∷ xs) = rw (in_last session xs) (by (a.session == session))
  where
    by : (b : Bool) → (b || true) ≡ true
    by true = refl
    by false = refl

awaits_last : (session : ℕ) (xs : List Waiter) (a : Waiter) → is_in session xs ≡ false → awaits session a ≡ false → list_any (awaits session) (xs ++ a ∷ []) ≡ false
awaits_last session xs a none is = list_any-append (awaits session) xs (a ∷ []) ∙ rw (none_awaits session xs none, is) refl

mark_some : (session : ℕ) (l : LockValue) → stands session l ≡ true → any (awaits session) l ≡ false → mark session l ≡ Some false
mark_some session l s a = ap (λ (b : Bool). cond b (Some (is_owed session l)) None) s ∙ ap Some (owed_any session l ∙ a)

stolen_mark : (session : ℕ) (queue stolen : List Waiter) → is_in session queue ≡ false → is_in session stolen ≡ false → mark session (stolen_from session queue stolen) ≡ Some false
stolen_mark session [] stolen q s = mark_some session (stolen_from session [] stolen) (rw (own session) refl) (rw (asker_awaits session, none_awaits session stolen s) refl)
stolen_mark session (a ∷ later) stolen q s =
    let n = both_not (a.session == session) (is_in session later) q in
    mark_some session (stolen_from session (a ∷ later) stolen) (rw (own session) refl)
    (rw (asker_awaits session, none_awaits session later n.1, awaits_last session stolen (robbed a) s (about_awaits session (robbed a) n.0)) refl)

-- one that asks is owed nothing
pub asked_mark : (how : Asking) (session : ℕ) (l : LockValue) → stands session l ≡ false → mark session (asked how session l) ≡ Some false
asked_mark asks.Lock session l e =
    let n = both_not (is_in session l.queue) (is_in session l.stolen) e in
    mark_some session (appended session l) (rw (in_last session l.queue) refl) (rw (awaits_last session l.queue (waiter session) n.0 (asker_awaits session), none_awaits session l.stolen n.1) refl)
asked_mark asks.Steal session l e =
    let n = both_not (is_in session l.queue) (is_in session l.stolen) e in
    stolen_mark session l.queue l.stolen n.0 n.1

pub left_mark : (session : ℕ) (l : LockValue) → mark session (without session l) ≡ None
left_mark session l = no_mark session (without session l) (left session l)

pub one_mark : (session : ℕ) (l : LockValue) → mark session l ≡ None → mark session (after_one session l) ≡ None
one_mark session l e = no_mark session (after_one session l) ((one_heard session l).same_standing session ∙ not_marked session l e)

told_is : (session : ℕ) (a : Waiter) → is_who session (told_one session a) ≡ is_who session a
told_is session a = by (a.session == session) refl
  where
    by : (b : Bool) → (a.session == session) ≡ b → is_who session (cond b (waiter session) a) ≡ b
    by true e = own session
    by false e = e

told_awaits : (session : ℕ) (a : Waiter) → awaits session (told_one session a) ≡ false
told_awaits session a = by (a.session == session) refl
  where
    by : (b : Bool) → (a.session == session) ≡ b → awaits session (cond b (waiter session) a) ≡ false
    by true e = asker_awaits session
    by false e = about_awaits session a e

in_heard : (session : ℕ) (xs : List Waiter) → is_in session (heard session xs) ≡ is_in session xs
in_heard session [] = refl
in_heard session (a ∷ xs) = rw (told_is session a, in_heard session xs) refl

awaits_heard : (session : ℕ) (xs : List Waiter) → list_any (awaits session) (heard session xs) ≡ false
awaits_heard session [] = refl
awaits_heard session (a ∷ xs) = rw (told_awaits session a) (awaits_heard session xs)

-- one that was told all is owed nothing
pub told_mark : (session : ℕ) (l : LockValue) → option_map (λ _. false) (mark session l) ≡ mark session (after_telling session l)
told_mark session l =
    let s : stands session (after_telling session l) ≡ stands session l = rw (in_heard session l.queue, in_heard session l.stolen) refl in
    let a : is_owed session (after_telling session l) ≡ false = owed_any session (after_telling session l) ∙ rw (awaits_heard session l.queue, awaits_heard session l.stolen) refl in
    by (stands session l) ∙ sym (ap (λ (b : Bool). cond b (Some (is_owed session (after_telling session l))) None) s ∙ ap (λ (b : Bool). cond (stands session l) (Some b) None) a)
  where
    by : (b : Bool) → option_map (λ _. false) (cond b (Some (is_owed session l)) None) ≡ cond b (Some false) None
    by true = refl
    by false = refl
