-- Locks by name: what stands under each name after a change, and an event that comes to one lock after another.
use Rattle.std.proofs.Common.{◌≡◌, ℕ, List, [], ◌∷◌, ◌++◌, Bool, true, false, cond, Option, Some, None, refl, sym, ap, subst, ◌∙◌}
use Rattle.std.specs.Prelude.{is_some, unwrap_or}
use Rattle.std.specs.Cmp.Lexicographic.{slice_cmp, nat_list_cmp_total}
use Rattle.std.specs.declared.cmp.Ordering.{Ordering}
use Rattle.std.specs.declared.cmp.Ordering.TheVariants.{Less, Equal, Greater}
use Rattle.std.specs.List.{AllByRecursion}
use Rattle.std.specs.List.Sorted.{IsStrictlySortedBy}
use Rattle.std.specs.Map.{lookup, keys_of}
use Rattle.std.specs.Ordering.{nat_cmp, is_eq, ordering_reverse}
use Rattle.std.specs.FinMap.{nat_cmp-IsAntisymmetric, slice_cmp-IsAntisymmetric}
use Rattle.std.proofs.lemmas.Map.{lookup-none}
use Rattle.std.proofs.lemmas.Map.Entries.{none_below_head}
use Rattle.std.proofs.lemmas.Map.Keys.{sorted_tail}
use Rattle.ovs_locks.specs.ByName.{ByName, Ascends, NoneIdle, named, kept, ChangesAt, changed}
use Rattle.ovs_locks.specs.BySession.{Names, mark_in}
use Rattle.ovs_locks.proofs.ByName.{same_name, busy_kept, idle_kept, busy_there, changed_none_idle}
use Rattle.ovs_locks.proofs.Gathering.{test, own_name, named_there}
use Rattle.ovs_lock_desk.specs.RelayLock.{no_relay_lock, is_desk_idle, step}
use Rattle.ovs_lock_desk.specs.LockDesk.{RelayLocks, IsDeskTable, relay_lock_at, stepped}
use Rattle.ovs_lock_desk.specs.LockDesk as desks
use Rattle.ovs_lock_desk.specs.declared.lock_state.LockEvent.{LockEvent}
use Rattle.ovs_lock_desk.proofs.DeskOwed.{idle_is_none}
use Rattle.ovs_lock_desk.proofs.DeskTables.{still_idle}
use Rattle.ovs_lock_desk.proofs.Named.{past}

-- ---- entries by name, each name once

module _ {X : Type 0} where
  first_there : (e : List ℕ × X) (es : ByName X) → lookup (test e.0) (e ∷ es) ≡ Some e.1
  first_there e es = rw (own_name e.0) refl

  none_before : (q : List ℕ) (e : List ℕ × X) (es : ByName X) → Ascends (e ∷ es) → slice_cmp nat_cmp q e.0 ≡ Less → lookup (test q) (e ∷ es) ≡ None
  none_before q e es s less = lookup-none (test q) (e ∷ es) (none_below_head nat_list_cmp_total q e es s less)

  some_is_none : (x : X) → Some x ≡ None → ⊥
  some_is_none x e = absurd cc

  -- where the same stands under each name, the entries are the same
  same_entries : (es fs : ByName X) → Ascends es → Ascends fs → ((q : List ℕ) → lookup (test q) es ≡ lookup (test q) fs) → es ≡ fs
  same_entries [] [] s t same = refl
  same_entries [] (f ∷ fs) s t same = absurd (some_is_none f.1 (sym (first_there f fs) ∙ sym (same f.0)))
  same_entries (e ∷ es) [] s t same = absurd (some_is_none e.1 (sym (first_there e es) ∙ same e.0))
  same_entries (e ∷ es) (f ∷ fs) s t same =
      by (slice_cmp nat_cmp e.0 f.0) refl (same_entries es fs (sorted_tail (slice_cmp nat_cmp) e.0 (keys_of es) s) (sorted_tail (slice_cmp nat_cmp) f.0 (keys_of fs) t))
    where
      later : (q : List ℕ) → e.0 ≡ f.0 → (b : Bool) → test q e.0 ≡ b → lookup (test q) es ≡ lookup (test q) fs
      later q key true at = past q e es s at ∙ sym (past q f fs t (ap (test q) (sym key) ∙ at))
      later q key false at =
          let a : lookup (test q) (e ∷ es) ≡ lookup (test q) es = rw at refl in
          let b : lookup (test q) (f ∷ fs) ≡ lookup (test q) fs = rw (ap (test q) (sym key) ∙ at) refl in
          sym a ∙ same q ∙ b

      by : (o : Ordering) → slice_cmp nat_cmp e.0 f.0 ≡ o → (((q : List ℕ) → lookup (test q) es ≡ lookup (test q) fs) → es ≡ fs) → e ∷ es ≡ f ∷ fs
      by Less is more = absurd (some_is_none e.1 (sym (first_there e es) ∙ same e.0 ∙ none_before e.0 f fs t is))
      by Greater is more = absurd (some_is_none f.1 (sym (first_there f fs) ∙ sym (same f.0) ∙ none_before f.0 e es s (nat_list_cmp_total.antisymm f.0 e.0 ∙ ap ordering_reverse is)))
      by Equal is more =
          let key : e.0 ≡ f.0 = slice_cmp-IsAntisymmetric nat_cmp-IsAntisymmetric e.0 f.0 is in
          let value : Some e.1 ≡ Some f.1 = sym (first_there e es) ∙ same e.0 ∙ rw (ap is_eq is) refl in
          let val : e.1 ≡ f.1 = cc in
          let rest = more (λ q. later q key (test q e.0) refl) in
          λ i. (key i, val i) ∷ rest i

-- ---- one lock

module _ {L : Type 0} where
  found_there : (name : List ℕ) (l : L) (before after : ByName L) → lookup (test name) (before ++ (name, l) ∷ after) ≡ None → ⊥
  found_there name l [] after none = by (test name name) (own_name name) none
    where
      by : (b : Bool) → b ≡ true → cond b (Some l) (lookup (test name) after) ≡ None → ⊥
      by true e n = absurd cc
      by false e n = absurd cc
  found_there name l (e ∷ before) after none = by (test name e.0) none (found_there name l before after)
    where
      by : (b : Bool) → cond b (Some e.1) (lookup (test name) (before ++ (name, l) ∷ after)) ≡ None → (lookup (test name) (before ++ (name, l) ∷ after) ≡ None → ⊥) → ⊥
      by true n more = absurd cc
      by false n more = more n

  -- a lock that was taken out is there no more
  taken_out : (name : List ℕ) (l : L) (before after : ByName L) → Ascends (before ++ (name, l) ∷ after) → lookup (test name) (before ++ after) ≡ None
  taken_out name l [] after ascend = past name (name, l) after ascend (own_name name)
  taken_out name l (e ∷ before) after ascend =
      by (test name e.0) refl (taken_out name l before after (sorted_tail (slice_cmp nat_cmp) e.0 (keys_of (before ++ (name, l) ∷ after)) ascend))
    where
      by : (b : Bool) → test name e.0 ≡ b → lookup (test name) (before ++ after) ≡ None → cond b (Some e.1) (lookup (test name) (before ++ after)) ≡ None
      by true at none = absurd (found_there name l before after (past name e (before ++ (name, l) ∷ after) ascend at))
      by false at none = none

  module _ (idle : L → Bool) (unasked : L) (was_idle : idle unasked ≡ true) (only : (l : L) → idle l ≡ true → l ≡ unasked) where
    elsewhere : (q name : List ℕ) (m : L) (before after : ByName L) → test q name ≡ false → lookup (test q) (before ++ (kept idle name m ++ after)) ≡ lookup (test q) (before ++ after)
    elsewhere q name m [] after at = by (idle m)
      where
        by : (b : Bool) → lookup (test q) (cond b [] ((name, m) ∷ []) ++ after) ≡ lookup (test q) after
        by true = refl
        by false = rw at refl
    elsewhere q name m (e ∷ before) after at = ap (λ (o : Option L). cond (test q e.0) (Some e.1) o) (elsewhere q name m before after at)

    -- a lock changed, and stands under its name
    pub changed_here : (name : List ℕ) (f : L → L) (old new : ByName L) → ChangesAt idle unasked name f old new → Ascends old → Ascends new → named unasked name new ≡ f (named unasked name old)
    changed_here name f old new c s t = by (idle c.lock) (idle (f c.lock)) refl refl
      where
        by : (i j : Bool) → idle c.lock ≡ i → idle (f c.lock) ≡ j → named unasked name new ≡ f (named unasked name old)
        by i false was is =
            let there : new ≡ c.before ++ (name, f c.lock) ∷ c.after = c.now ∙ ap (λ (ks : ByName L). c.before ++ (ks ++ c.after)) (busy_kept idle name (f c.lock) is) in
            ap (named unasked name) there ∙ named_there unasked name (f c.lock) c.before c.after (subst Ascends there t) ∙ ap f c.at
        by true true was is =
            let same : new ≡ old = c.now ∙ ap (λ (ks : ByName L). c.before ++ (ks ++ c.after)) (idle_kept idle name (f c.lock) is ∙ sym (idle_kept idle name c.lock was)) ∙ sym c.was in
            ap (named unasked name) same ∙ sym c.at ∙ only c.lock was ∙ sym (only (f c.lock) is) ∙ ap f c.at
        by false true was is =
            let stood : old ≡ c.before ++ (name, c.lock) ∷ c.after = c.was ∙ ap (λ (ks : ByName L). c.before ++ (ks ++ c.after)) (busy_kept idle name c.lock was) in
            let gone : new ≡ c.before ++ c.after = c.now ∙ ap (λ (ks : ByName L). c.before ++ (ks ++ c.after)) (idle_kept idle name (f c.lock) is) in
            ap (named unasked name) gone ∙ ap (λ (o : Option L). unwrap_or o unasked) (taken_out name c.lock c.before c.after (subst Ascends stood s)) ∙ sym (only (f c.lock) is) ∙ ap f c.at

    -- and all others stay
    pub changed_nowhere_else : (name : List ℕ) (f : L → L) (old new : ByName L) → ChangesAt idle unasked name f old new → (q : List ℕ) → test q name ≡ false → named unasked q new ≡ named unasked q old
    changed_nowhere_else name f old new c q at =
        ap (named unasked q) c.now
        ∙ ap (λ (o : Option L). unwrap_or o unasked) (elsewhere q name (f c.lock) c.before c.after at ∙ sym (elsewhere q name c.lock c.before c.after at))
        ∙ ap (named unasked q) (sym c.was)

    -- all locks changed
    pub changed_each : (f : L → L) → f unasked ≡ unasked → (q : List ℕ) (es : ByName L) → Ascends es → named unasked q (changed idle f es) ≡ f (named unasked q es)
    changed_each f still q [] s = sym still
    changed_each f still q (e ∷ es) s = by (test q e.0) (idle (f e.1)) refl refl (changed_each f still q es (sorted_tail (slice_cmp nat_cmp) e.0 (keys_of es) s))
      where
        by : (b i : Bool) → test q e.0 ≡ b → idle (f e.1) ≡ i → named unasked q (changed idle f es) ≡ f (named unasked q es)
            → named unasked q (cond i (changed idle f es) ((e.0, f e.1) ∷ changed idle f es)) ≡ f (unwrap_or (cond b (Some e.1) (lookup (test q) es)) unasked)
        by true true at is rest = rest ∙ ap f (ap (λ (o : Option L). unwrap_or o unasked) (past q e es s at)) ∙ still ∙ sym (only (f e.1) is)
        by true false at is rest = rw at refl
        by false true at is rest = rest
        by false false at is rest = rw at rest

    changed_all : (P : List ℕ → Type 0) (f : L → L) (es : ByName L) → AllByRecursion P (keys_of es) → AllByRecursion P (keys_of (changed idle f es))
    changed_all P f [] all = tt
    changed_all P f (e ∷ es) all = by (idle (f e.1)) (changed_all P f es all.1)
      where
        by : (i : Bool) → AllByRecursion P (keys_of (changed idle f es)) → AllByRecursion P (keys_of (cond i (changed idle f es) ((e.0, f e.1) ∷ changed idle f es)))
        by true rest = rest
        by false rest = (all.0, rest)

    pub changed_ascend : (f : L → L) (es : ByName L) → Ascends es → Ascends (changed idle f es)
    unfolding IsStrictlySortedBy
    changed_ascend f [] s = tt
    changed_ascend f (e ∷ es) s = by (idle (f e.1)) (changed_all (λ k. slice_cmp nat_cmp e.0 k ≡ Less) f es s.0) (changed_ascend f es s.1)
      where
        by : (i : Bool) → AllByRecursion (λ k. slice_cmp nat_cmp e.0 k ≡ Less) (keys_of (changed idle f es)) → Ascends (changed idle f es) → Ascends (cond i (changed idle f es) ((e.0, f e.1) ∷ changed idle f es))
        by true less rest = rest
        by false less rest = (less, rest)

    -- locks of which none is idle are told apart by what stands under the names
    same_lookup : (q : List ℕ) (es fs : ByName L) → NoneIdle idle es → NoneIdle idle fs → named unasked q es ≡ named unasked q fs → lookup (test q) es ≡ lookup (test q) fs
    same_lookup q es fs e f same = by (lookup (test q) es) (lookup (test q) fs) refl refl
      where
        at : (xs : ByName L) (o : Option L) → lookup (test q) xs ≡ o → named unasked q xs ≡ unwrap_or o unasked
        at xs o is = ap (λ (o : Option L). unwrap_or o unasked) is

        by : (o p : Option L) → lookup (test q) es ≡ o → lookup (test q) fs ≡ p → lookup (test q) es ≡ lookup (test q) fs
        by None None is there = is ∙ sym there
        by (Some l) None is there =
            let clash = sym (busy_there idle (test q) es l e is) ∙ ap idle (sym (at es (Some l) is) ∙ same ∙ at fs None there) ∙ was_idle in
            absurd cc
        by None (Some m) is there =
            let clash = sym (busy_there idle (test q) fs m f there) ∙ ap idle (sym (at fs (Some m) there) ∙ sym same ∙ at es None is) ∙ was_idle in
            absurd cc
        by (Some l) (Some m) is there = is ∙ ap Some (sym (at es (Some l) is) ∙ same ∙ at fs (Some m) there) ∙ sym there

    pub same_locks : (es fs : ByName L) → Ascends es → Ascends fs → NoneIdle idle es → NoneIdle idle fs → ((q : List ℕ) → named unasked q es ≡ named unasked q fs) → es ≡ fs
    same_locks es fs s t e f same =
        same_entries es fs s t (λ q. same_lookup q es fs e f (same q))

-- what an event leaves under a name, where it comes to all locks
pub stepped_at : (event : LockEvent) (q : List ℕ) (es : RelayLocks) → Ascends es → relay_lock_at q (stepped event es) ≡ step event (relay_lock_at q es)
stepped_at event q es s = changed_each is_desk_idle no_relay_lock refl idle_is_none (step event) (idle_is_none (step event no_relay_lock) (still_idle event)) q es s

-- ---- one lock after another

module _ (event : LockEvent) (first : RelayLocks) where
  -- the event came to all locks but those that are left by these names
  pub record Stepping (names : Names) (locks : RelayLocks) : Type 0 where
    pub passed : (name : List ℕ) → mark_in name names ≡ None → relay_lock_at name locks ≡ step event (relay_lock_at name first)
    pub left : (name : List ℕ) → is_some (mark_in name names) ≡ true → relay_lock_at name locks ≡ relay_lock_at name first
    pub ascend : Ascends names
    pub table : IsDeskTable locks

  none_or_some : (o : Option Bool) → (o ≡ None → ⊥) → is_some o ≡ true
  none_or_some None n = absurd (n refl)
  none_or_some (Some b) n = refl

  pub stepping_first : (names : Names) → Ascends names → IsDeskTable first → ((name : List ℕ) → mark_in name names ≡ None → step event (relay_lock_at name first) ≡ relay_lock_at name first) → Stepping names first
  stepping_first names ascend table others = record { passed = λ name none. sym (others name none); left = λ name some. refl; ascend = ascend; table = table }

  pub stepping_next : (name : List ℕ) (b : Bool) (names later : Names) (old new : RelayLocks) → names ≡ (name, b) ∷ later → Stepping names old
      → desks.ChangesAt name (step event) old new → IsDeskTable new → Stepping later new
  stepping_next name b names later old new is s change table = record {
    passed = λ q none. after q (test q name) refl none;
    left = λ q some. before q (test q name) refl some;
    ascend = sorted_tail (slice_cmp nat_cmp) name (keys_of later) ascends;
    table = table;
  }
    where
      ascends : Ascends ((name, b) ∷ later)
      ascends = subst Ascends is s.ascend

      here : relay_lock_at name new ≡ step event (relay_lock_at name first)
      here =
          changed_here is_desk_idle no_relay_lock refl idle_is_none name (step event) old new change s.table.ascend table.ascend
          ∙ ap (step event) (s.left name (subst (λ (ns : Names). is_some (mark_in name ns) ≡ true) (sym is) (rw (own_name name) refl)))

      others : (q : List ℕ) → test q name ≡ false → relay_lock_at q new ≡ relay_lock_at q old
      others q at = changed_nowhere_else is_desk_idle no_relay_lock refl idle_is_none name (step event) old new change q at

      skipped : (q : List ℕ) → test q name ≡ false → mark_in q names ≡ mark_in q later
      skipped q at = ap (mark_in q) is ∙ rw at refl

      after : (q : List ℕ) (c : Bool) → test q name ≡ c → mark_in q later ≡ None → relay_lock_at q new ≡ step event (relay_lock_at q first)
      after q true at none = subst (λ (k : List ℕ). relay_lock_at k new ≡ step event (relay_lock_at k first)) (same_name q name at) here
      after q false at none = others q at ∙ s.passed q (skipped q at ∙ none)

      before : (q : List ℕ) (c : Bool) → test q name ≡ c → is_some (mark_in q later) ≡ true → relay_lock_at q new ≡ relay_lock_at q first
      before q true at some =
          let clash = sym some ∙ ap is_some (past q (name, b) later ascends at) in
          absurd cc
      before q false at some = others q at ∙ s.left q (ap is_some (skipped q at) ∙ some)

  -- it came to all of them
  pub has_stepped : (new : RelayLocks) → IsDeskTable first → Stepping [] new → new ≡ stepped event first
  has_stepped new table s =
      same_locks is_desk_idle no_relay_lock refl idle_is_none new (stepped event first) s.table.ascend
      (changed_ascend is_desk_idle no_relay_lock refl idle_is_none (step event) first table.ascend)
      s.table.none_idle (changed_none_idle is_desk_idle (step event) first)
      (λ q. s.passed q refl ∙ sym (stepped_at event q first table.ascend))
