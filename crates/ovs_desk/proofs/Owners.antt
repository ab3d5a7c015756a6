-- Who owns the locks of a relay's desk, once a session was told something, or ended.
use Rattle.std.proofs.Common.{◌≡◌, ℕ, List, [], ◌∷◌, ◌++◌, Bool, true, false, cond, ◌||◌, ◌&&◌, Option, Some, None, refl, sym, ap, subst, ◌∙◌, eq-eqb}
use Rattle.std.specs.Prelude.{◌≢◌, unwrap_or}
use Rattle.std.specs.Cmp.{eq_by_cmp_equiv}
use Rattle.std.specs.Cmp.Lexicographic.{slice_cmp, nat_list_cmp_total}
use Rattle.std.specs.Map.{lookup, keys_of}
use Rattle.std.specs.Ordering.{nat_cmp}
use Rattle.std.specs.BTreeMap.{is_at}
use Rattle.std.proofs.lemmas.Map.{lookup-none}
use Rattle.std.proofs.lemmas.Map.Entries.{none_past_head}
use Rattle.std.proofs.lemmas.Map.Keys.{sorted_tail, IsDistinct-from_sorted}
use Rattle.ovs_locks.specs.ByName.{Ascends, kept}
use Rattle.ovs_locks.specs.declared.waiter.Waiter.{Waiter}
use Rattle.ovs_locks.specs.Lock.{LockValue, is_in, is_idle, first_who, owner, stands}
use Rattle.ovs_locks.proofs.Idle.{one_idle}
use Rattle.ovs_locks.proofs.NextNotice.{one_heard}
use Rattle.ovs_lock_desk.specs.LockState.{is_held, is_still}
use Rattle.ovs_lock_desk.specs.PendingSteal.{is_due_late, without_one, is_empty_late}
use Rattle.ovs_lock_desk.specs.RelayLock.{RelayLockValue, no_relay_lock, is_desk_idle, step, desk_owner}
use Rattle.ovs_lock_desk.specs.LockDesk.{RelayLocks, IsDeskTable, ChangesAt, relay_lock_at, stands_at}
use Rattle.ovs_lock_desk.specs.declared.lock_state.LockState.{LockState}
use Rattle.ovs_lock_desk.specs.declared.lock_state.LockState.TheVariants.{Idle, Sent, Waiting, Held}
use Rattle.ovs_lock_desk.specs.declared.lock_state.LockEvent.TheVariants as events
use Rattle.ovs_lock_desk.proofs.DeskOwed.{both, idles}

abbrev test : List ℕ → List ℕ → Bool
test name = is_at (slice_cmp nat_cmp name)

-- ---- one lock

not_held : (c : LockState) → is_still c ≡ true → is_held c ≡ false
not_held (Idle d) e = refl
not_held (Sent n) e = refl
not_held Waiting e = refl
not_held Held e = absurd cc

idle_unowned : (l : RelayLockValue) → is_desk_idle l ≡ true → desk_owner l ≡ None
idle_unowned l e =
    let still = (both (is_empty_late l.late) (is_still l.state) (both (is_idle l.lock) (is_empty_late l.late && is_still l.state) e).1).1 in
    rw (not_held l.state still) refl

-- ---- a change that leaves the owner of a lock

module _ (f : RelayLockValue → RelayLockValue) (keeps : (l : RelayLockValue) → desk_owner (f l) ≡ desk_owner l) (stays : (l : RelayLockValue) → is_desk_idle l ≡ true → is_desk_idle (f l) ≡ true)
    (name other : List ℕ) where
  abbrev owner_in : Option RelayLockValue → Option ℕ
  owner_in o = desk_owner (unwrap_or o no_relay_lock)

  -- the lock was written
  written : (before after : RelayLocks) (l : RelayLockValue) → desk_owner (relay_lock_at other (before ++ (name, f l) ∷ after)) ≡ desk_owner (relay_lock_at other (before ++ (name, l) ∷ after))
  written [] after l = by (test other name)
    where
      by : (b : Bool) → owner_in (cond b (Some (f l)) (lookup (test other) after)) ≡ owner_in (cond b (Some l) (lookup (test other) after))
      by true = keeps l
      by false = refl
  written (e ∷ before) after l = by (test other e.0) (written before after l)
    where
      by : (b : Bool) → owner_in (lookup (test other) (before ++ (name, f l) ∷ after)) ≡ owner_in (lookup (test other) (before ++ (name, l) ∷ after))
          → owner_in (cond b (Some e.1) (lookup (test other) (before ++ (name, f l) ∷ after))) ≡ owner_in (cond b (Some e.1) (lookup (test other) (before ++ (name, l) ∷ after)))
      by true rest = refl
      by false rest = rest

  -- the lock left, since it was idle then: its name stood once, so that nobody owns it
  gone : (before after : RelayLocks) (l : RelayLockValue) → is_desk_idle (f l) ≡ true → Ascends (before ++ (name, l) ∷ after)
      → desk_owner (relay_lock_at other (before ++ after)) ≡ desk_owner (relay_lock_at other (before ++ (name, l) ∷ after))
  gone [] after l idle ascend = by (test other name) refl
    where
      by : (b : Bool) → test other name ≡ b → owner_in (lookup (test other) after) ≡ owner_in (cond b (Some l) (lookup (test other) after))
      by true at =
          let none = lookup-none (test other) after
          (none_past_head (eq_by_cmp_equiv nat_list_cmp_total) other (let e : List ℕ × RelayLockValue = (name, l) in e) after (IsDistinct-from_sorted (slice_cmp nat_cmp) (keys_of ((name, l) ∷ after)) ascend) at) in
          ap owner_in none ∙ sym (idle_unowned (f l) idle) ∙ keeps l
      by false at = refl
  gone (e ∷ before) after l idle ascend = by (test other e.0) (gone before after l idle (sorted_tail (slice_cmp nat_cmp) e.0 (keys_of (before ++ (name, l) ∷ after)) ascend))
    where
      by : (b : Bool) → owner_in (lookup (test other) (before ++ after)) ≡ owner_in (lookup (test other) (before ++ (name, l) ∷ after))
          → owner_in (cond b (Some e.1) (lookup (test other) (before ++ after))) ≡ owner_in (cond b (Some e.1) (lookup (test other) (before ++ (name, l) ∷ after)))
      by true rest = refl
      by false rest = rest

  parts : (before after : RelayLocks) (l : RelayLockValue) → Ascends (before ++ (kept is_desk_idle name l ++ after))
      → desk_owner (relay_lock_at other (before ++ (kept is_desk_idle name (f l) ++ after))) ≡ desk_owner (relay_lock_at other (before ++ (kept is_desk_idle name l ++ after)))
  parts before after l ascend = by (is_desk_idle l) (is_desk_idle (f l)) refl refl ascend
    where
      by : (a b : Bool) → is_desk_idle l ≡ a → is_desk_idle (f l) ≡ b → Ascends (before ++ (cond a [] ((name, l) ∷ []) ++ after))
          → desk_owner (relay_lock_at other (before ++ (cond b [] ((name, f l) ∷ []) ++ after))) ≡ desk_owner (relay_lock_at other (before ++ (cond a [] ((name, l) ∷ []) ++ after)))
      by true true was is ascend = refl
      by true false was is ascend = absurd (let clash = sym is ∙ stays l was in cc)
      by false true was is ascend = gone before after l is ascend
      by false false was is ascend = written before after l

  pub owner_kept : (old new : RelayLocks) → IsDeskTable old → ChangesAt name f old new → desk_owner (relay_lock_at other new) ≡ desk_owner (relay_lock_at other old)
  owner_kept old new table c =
      ap (λ (es : RelayLocks). desk_owner (relay_lock_at other es)) c.now
      ∙ parts c.before c.after c.lock (subst Ascends c.was table.ascend)
      ∙ sym (ap (λ (es : RelayLocks). desk_owner (relay_lock_at other es)) c.was)

-- ---- what is told

answer_idle : (session : ℕ) (l : RelayLockValue) → is_desk_idle l ≡ true → is_desk_idle (step (events.AnswerTold session) l) ≡ true
answer_idle session l e = ap (λ (b : Bool). is_idle l.lock && (b && is_still l.state)) same ∙ e
  where
    same : is_empty_late (without_one (is_due_late session) l.late) ≡ is_empty_late l.late
    same = let none = (idles l e).late in rw none refl

notice_idle : (session : ℕ) (l : RelayLockValue) → is_desk_idle l ≡ true → is_desk_idle (step (events.NoticeTold session) l) ≡ true
notice_idle session l e = ap (λ (b : Bool). b && (is_empty_late l.late && is_still l.state)) (one_idle session l.lock) ∙ e

notice_owner : (session : ℕ) (l : RelayLockValue) → desk_owner (step (events.NoticeTold session) l) ≡ desk_owner l
notice_owner session l = ap (λ (o : Option ℕ). cond (is_held l.state) o None) (one_heard session l.lock).same_owner

module _ (session : ℕ) (name : List ℕ) (old new : RelayLocks) (table : IsDeskTable old) where
  pub answer_told_owner : ChangesAt name (step (events.AnswerTold session)) old new → (other : List ℕ) → desk_owner (relay_lock_at other new) ≡ desk_owner (relay_lock_at other old)
  answer_told_owner c other = owner_kept (step (events.AnswerTold session)) (λ l. refl) (answer_idle session) name other old new table c

  pub notice_told_owner : ChangesAt name (step (events.NoticeTold session)) old new → (other : List ℕ) → desk_owner (relay_lock_at other new) ≡ desk_owner (relay_lock_at other old)
  notice_told_owner c other = owner_kept (step (events.NoticeTold session)) (notice_owner session) (notice_idle session) name other old new table c

-- ---- a session that stands nowhere

owner_stands : (session : ℕ) (l : LockValue) → stands session l ≡ false → owner l ≢ Some session
owner_stands session l none is = by l.queue none is
  where
    by : (queue : List Waiter) → (is_in session queue || is_in session l.stolen) ≡ false → first_who queue ≡ Some session → ⊥
    by [] e is = absurd cc
    by (a ∷ later) e is = (let same : a.session ≡ session = cc in let found = rw (eq-eqb a.session session same) at e in absurd cc)

desk_owner_stands : (session : ℕ) (l : RelayLockValue) → stands session l.lock ≡ false → desk_owner l ≢ Some session
desk_owner_stands session l none = by (is_held l.state)
  where
    by : (b : Bool) → cond b (owner l.lock) None ≢ Some session
    by true = owner_stands session l.lock none
    by false = λ is. absurd cc

either : (a b : Bool) → (a || b) ≡ false → (a ≡ false) × (b ≡ false)
either true b e = absurd cc
either false b e = (refl, e)

pub owns_none : (session : ℕ) (locks : RelayLocks) → stands_at session locks ≡ false → (name : List ℕ) → desk_owner (relay_lock_at name locks) ≢ Some session
owns_none session [] none name = λ is. absurd cc
owns_none session (e ∷ es) none name =
    let n = either (stands session e.1.lock) (stands_at session es) none in
    elim (test name e.0) as (λ b. desk_owner (unwrap_or (cond b (Some e.1) (lookup (test name) es)) no_relay_lock) ≢ Some session) [
      | true ↦ desk_owner_stands session e.1 n.0
      | false ↦ owns_none session es n.1 name
    ]
