-- What each call on the table leaves listed of the sessions.
use Rattle.std.proofs.Common.{◌≡◌, ℕ, List, [], ◌∷◌, ◌++◌, Bool, true, false, cond, Option, Some, None, refl, sym, ap, subst, ◌∙◌}
use Rattle.std.specs.Prelude.{◌==◌, is_some, slice_get, unwrap_or, option_map, option_and_then}
use Rattle.std.specs.Map.{lookup}
use Rattle.std.proofs.lemmas.Bool.{eqb-true, eqb-false}
use Rattle.std.specs.List.{AllByRecursion}
use Rattle.ovs_locks.specs.ByName.{Ascends, gathered}
use Rattle.ovs_locks.specs.BySession.{Names, Sessions, Notes, Remarks, RemarksAny, IsListed, Forgets, TellsAll, is_some_owed, names_at, mark_at, mark_in}
use Rattle.ovs_locks.specs.BySession as by_session
use Rattle.ovs_locks.specs.declared.waiter.Waiter.{Waiter}
use Rattle.ovs_locks.specs.Lock.{LockValue, no_lock, is_in, is_first, owner, stands, dropped, granted, without, after_telling, mark, owed_for}
use Rattle.ovs_locks.specs.declared.notice.LockNotice.{LockNotice}
use Rattle.ovs_locks.specs.LockTable.{Locks, AscendByName, NoneIdle, LeavesFrom, Leaves, lock_at, Becomes, AllBecome, owed_to}
use Rattle.ovs_locks.proofs.ByName.{same_name}
use Rattle.ovs_locks.proofs.Gathering.{test}
use Rattle.ovs_locks.proofs.Listed.{Reads, reads, found}
use Rattle.ovs_locks.proofs.Moves.{mark_is, not_marked, no_mark, both_not, without_moves, told_mark, told_apart}
use Rattle.ovs_locks.proofs.NextNotice.{lock_owes, nothing_first, first_owes, first_front}
use Rattle.ovs_locks.proofs.Relisting.{Moves, relisted, remarked, others_listed, other_name}
use Rattle.ovs_locks.proofs.Standing.{not_owed_for}
use Rattle.ovs_locks.proofs.Tables.{left, apart}

module _ (session : ℕ) (name : List ℕ) (near : Option ℕ) (f : LockValue → LockValue) (old new : Locks) (becomes : Becomes old name (f (lock_at name old)) new)
    (moves : Moves mark no_lock session near (lock_at name old) (f (lock_at name old))) where
  there : Moves mark no_lock session near (lock_at name old) (lock_at name new)
  there = subst (Moves mark no_lock session near (lock_at name old)) (sym becomes.0) moves

  pub table_listed : (s t u : Sessions) → IsListed mark no_lock old s → Notes s session name (mark session (f (lock_at name old))) t
      → RemarksAny (λ x. mark x (lock_at name new)) near name t u → IsListed mark no_lock new u
  table_listed s t u listed note re =
      relisted mark no_lock session name near old new (λ n ne. becomes.1 n ne) there s t u listed (subst (λ (m : LockValue). Notes s session name (mark session m) t) (sym becomes.0) note) re

  -- where the session's own mark is written too
  pub table_remarked : (s t u : Sessions) → IsListed mark no_lock old s → (mark session (lock_at name old) ≡ None → mark session (f (lock_at name old)) ≡ None)
      → Remarks (λ x. mark x (lock_at name new)) session name s t → RemarksAny (λ x. mark x (lock_at name new)) near name t u → IsListed mark no_lock new u
  table_remarked s t u listed none first re =
      relisted mark no_lock session name near old new (λ n ne. becomes.1 n ne) there s t u listed
      (remarked mark no_lock session name near old new (λ n ne. becomes.1 n ne) there s t listed first (λ e. ap (mark session) becomes.0 ∙ none e)) re

-- ---- what a session is owed

silent : (session : ℕ) (name : List ℕ) (l : LockValue) → mark session l ≡ None → owed_for session name l ≡ []
silent session name l e = not_owed_for session name l (not_marked session l e)

abbrev pub TableReads : ℕ → Locks → Names → Type 0
TableReads session locks names = Reads (mark session) no_lock refl (owed_for session) locks names

pub table_reads : (session : ℕ) (locks : Locks) (names : Names) → AscendByName locks → Ascends names → ((name : List ℕ) → mark_in name names ≡ mark session (lock_at name locks)) → TableReads session locks names
table_reads session locks names s t same = reads (mark session) no_lock refl (owed_for session) (silent session) locks names s t same

module _ (session : ℕ) (locks : Locks) where
  abbrev pub told : List ℕ → Bool → List LockNotice
  told name owed = owed_for session name (lock_at name locks)

  pub owed_mark : (name : List ℕ) (b : Bool) → mark session (lock_at name locks) ≡ Some b → is_some (slice_get (told name b) 0) ≡ b
  owed_mark name b e = lock_owes session name (lock_at name locks) ∙ mark_is session (lock_at name locks) b e

  pub unowed : (name : List ℕ) → mark session (lock_at name locks) ≡ Some false → told name false ≡ []
  unowed name e = nothing_first (told name false) (owed_mark name false e)

  owed_names : (names : Names) → AllByRecursion (λ (e : List ℕ × Bool). mark session (lock_at e.0 locks) ≡ Some e.1) names
      → is_some_owed names ≡ is_some (slice_get (gathered told names) 0)
  owed_names [] all = refl
  owed_names (e ∷ es) all = by e.1 refl (owed_names es all.1)
    where
      by : (b : Bool) → e.1 ≡ b → is_some_owed es ≡ is_some (slice_get (gathered told es) 0) → is_some_owed ((e.0, b) ∷ es) ≡ is_some (slice_get (told e.0 e.1 ++ gathered told es) 0)
      by true is rest = sym (first_owes (told e.0 true) (gathered told es) (owed_mark e.0 true (all.0 ∙ ap Some is)))
      by false is rest = rest ∙ ap (λ (xs : List LockNotice). is_some (slice_get (xs ++ gathered told es) 0)) (sym (unowed e.0 (all.0 ∙ ap Some is)))

  pub owes_listed : (names : Names) → TableReads session locks names → is_some_owed names ≡ is_some (slice_get (owed_to session locks) 0)
  owes_listed names r = owed_names names r.each ∙ ap (λ (xs : List LockNotice). is_some (slice_get xs 0)) r.whole

  -- what these names tell is all that the session is owed
  abbrev pub Left : Names → Type 0
  Left names = (gathered told names ≡ owed_to session locks) × AllByRecursion (λ (e : List ℕ × Bool). mark session (lock_at e.0 locks) ≡ Some e.1) names

  pub left_all : (sessions : Sessions) (names : Names) → AscendByName locks → Ascends (names_at session sessions) → IsListed mark no_lock locks sessions → Some names ≡ by_session.owed_names session sessions → Left names
  left_all sessions names s t listed is =
      let r = table_reads session locks (names_at session sessions) s t (listed session) in
      subst Left (by (is_some_owed (names_at session sessions)) is) (r.whole, r.each)
    where
      by : (b : Bool) → Some names ≡ cond b (Some (names_at session sessions)) None → names_at session sessions ≡ names
      by true e = cc
      by false e = absurd cc

  pub none_left : (sessions : Sessions) → AscendByName locks → Ascends (names_at session sessions) → IsListed mark no_lock locks sessions → None ≡ by_session.owed_names session sessions → None ≡ slice_get (owed_to session locks) 0
  none_left sessions s t listed is =
      let r = table_reads session locks (names_at session sessions) s t (listed session) in
      sym (ap (λ (xs : List LockNotice). slice_get xs 0) (nothing_first (owed_to session locks) (sym (owes_listed (names_at session sessions) r) ∙ by (is_some_owed (names_at session sessions)) is)))
    where
      by : (b : Bool) → None ≡ cond b (Some (names_at session sessions)) None → b ≡ false
      by true e = absurd cc
      by false e = refl

  pub left_later : (name : List ℕ) (b : Bool) (names later : Names) → names ≡ (name, b) ∷ later → told name b ≡ [] → Left names → Left later
  left_later name b names later step none left =
      let here = subst Left step left in
      (ap (λ (xs : List LockNotice). xs ++ gathered told later) (sym none) ∙ here.0, here.1.1)

  pub left_unowed : (name : List ℕ) (b : Bool) (names later : Names) → names ≡ (name, b) ∷ later → b ≡ false → Left names → Left later
  left_unowed name b names later step out left =
      let here = subst Left step left in
      left_later name b names later step (unowed name (here.1.0 ∙ ap Some out)) left

  pub left_first : (name : List ℕ) (b : Bool) (names later : Names) (notice : Option LockNotice) → names ≡ (name, b) ∷ later → notice ≡ slice_get (told name b) 0 → is_some notice ≡ true → Left names
      → notice ≡ slice_get (owed_to session locks) 0
  left_first name b names later notice step is some left =
      let here = subst Left step left in
      is ∙ sym (first_front (told name b) (gathered told later) (ap is_some (sym is) ∙ some)) ∙ ap (λ (xs : List LockNotice). slice_get xs 0) here.0

-- ---- a session that leaves all lists

same_list : (session : ℕ) (xs : List Waiter) → is_in session xs ≡ false → dropped session xs ≡ xs
same_list session [] e = refl
same_list session (a ∷ xs) e =
    let n = both_not (a.session == session) (is_in session xs) e in
    rw n.0 (ap (λ (ys : List Waiter). a ∷ ys) (same_list session xs n.1))

not_first : (session : ℕ) (xs : List Waiter) → is_in session xs ≡ false → is_first session xs ≡ false
not_first session [] e = refl
not_first session (a ∷ xs) e = (both_not (a.session == session) (is_in session xs) e).0

granted_none : (xs : List Waiter) → granted false xs ≡ xs
granted_none [] = refl
granted_none (a ∷ xs) = refl

-- where it doesn't stand nothing changes
without_none : (session : ℕ) (l : LockValue) → stands session l ≡ false → without session l ≡ l
without_none session l e =
    let n = both_not (is_in session l.queue) (is_in session l.stolen) e in
    let queue : granted (is_first session l.queue) (dropped session l.queue) ≡ l.queue =
    ap (λ (b : Bool). granted b (dropped session l.queue)) (not_first session l.queue n.0) ∙ ap (granted false) (same_list session l.queue n.0) ∙ granted_none l.queue in
    let stolen = same_list session l.stolen n.1 in
    λ i. record { queue = queue i; stolen = stolen i }

module _ (session : ℕ) where
  -- what is left of the names, the locks so far, and the sessions
  pub record Leaving (first : Locks) (names : Names) (locks : Locks) (sessions : Sessions) : Type 0 where
    pub from : LeavesFrom session names locks sessions
    pub same : (name : List ℕ) → without session (lock_at name locks) ≡ without session (lock_at name first)
    pub ascend : AscendByName locks
    pub none_idle : NoneIdle locks

  pub leaving_next : (first : Locks) (name : List ℕ) (owed : Bool) (names later : Names) (old new : Locks) (s u : Sessions) (near : Option ℕ) → names ≡ (name, owed) ∷ later
      → Leaving first names old s → Becomes old name (without session (lock_at name old)) new → near ≡ owner (lock_at name new)
      → RemarksAny (λ x. mark x (lock_at name new)) near name s u → AscendByName new → NoneIdle new → Leaving first later new u
  leaving_next first name owed names later old new s u near step is becomes next re ascend none_idle = record {
    from = record {
      at = λ n e. stays n (test name n) refl e;
      listed = λ x n apart.
          others_listed mark no_lock session name near old new (λ k ne. becomes.1 k ne) moves s u is.from.listed re x n apart;
      gone = λ n. still n near re;
    };
    same = λ n. again n (test name n) refl;
    ascend = ascend;
    none_idle = none_idle;
  }
    where
      moves : Moves mark no_lock session near (lock_at name old) (lock_at name new)
      moves =
          subst (λ (o : Option ℕ). Moves mark no_lock session o (lock_at name old) (lock_at name new)) (sym next)
          (subst (λ (m : LockValue). Moves mark no_lock session (owner m) (lock_at name old) m) (sym becomes.0) (without_moves session (lock_at name old)))

      stays : (n : List ℕ) (b : Bool) → test name n ≡ b → mark_in n later ≡ None → stands session (lock_at n new) ≡ false
      stays n true e none = subst (λ (k : List ℕ). stands session (lock_at k new) ≡ false) (sym (same_name name n e)) (ap (stands session) becomes.0 ∙ left session (lock_at name old))
      stays n false e none =
          let ne = other_name name n e in
          let passed : mark_in n names ≡ None = ap (mark_in n) step ∙ rw (apart n name (λ e. ne (sym e))) none in
          ap (stands session) (becomes.1 n ne) ∙ is.from.at n passed

      again : (n : List ℕ) (b : Bool) → test name n ≡ b → without session (lock_at n new) ≡ without session (lock_at n first)
      again n true e =
          subst (λ (k : List ℕ). without session (lock_at k new) ≡ without session (lock_at k first)) (sym (same_name name n e))
          (ap (without session) becomes.0 ∙ without_none session (without session (lock_at name old)) (left session (lock_at name old)) ∙ is.same name)
      again n false e = ap (without session) (becomes.1 n (other_name name n e)) ∙ is.same n

      still : (n : List ℕ) (o : Option ℕ) → RemarksAny (λ x. mark x (lock_at name new)) o name s u → mark_at session n u ≡ None
      still n None re = ap (mark_at session n) re ∙ is.from.gone n
      still n (Some a) re = by (session == a) (test name n) refl refl
        where
          its : session ≡ a → (c : Bool) → test name n ≡ c → mark_at session n u ≡ None
          its same true at =
              subst (λ (k : List ℕ). mark_at session k u ≡ None) (sym (same_name name n at))
              (subst (λ (y : ℕ). mark_at y name u ≡ option_and_then (λ _. mark y (lock_at name new)) (mark_at y name s)) (sym same) re.at
              ∙ ap (option_and_then (λ _. mark session (lock_at name new))) (is.from.gone name))
          its same false at = subst (λ (y : ℕ). mark_at y n u ≡ mark_at y n s) (sym same) (re.others n (other_name name n at)) ∙ is.from.gone n

          by : (b c : Bool) → (session == a) ≡ b → test name n ≡ c → mark_at session n u ≡ None
          by true c e at = its (eqb-true session a e) c at
          by false c e at = ap (mark_in n) (re.sessions session (eqb-false session a e)) ∙ is.from.gone n

  pub has_left : (first new : Locks) (u : Sessions) → Leaving first [] new u → Leaves session first new u
  has_left first new u is = record {
    locks = λ n. sym (without_none session (lock_at n new) (is.from.at n refl)) ∙ is.same n;
    listed = λ x n. by x n (x == session) refl;
  }
    where
      by : (x : ℕ) (n : List ℕ) (b : Bool) → (x == session) ≡ b → mark_at x n u ≡ mark x (lock_at n new)
      by x n true e = subst (λ (y : ℕ). mark_at y n u ≡ mark y (lock_at n new)) (sym (eqb-true x session e)) (is.from.gone n ∙ sym (no_mark session (lock_at n new) (is.from.at n refl)))
      by x n false e = is.from.listed x n (eqb-false x session e)

  pub leaving_first : (locks : Locks) (s t : Sessions) (names : Names) → IsListed mark no_lock locks s → Forgets session s t → names ≡ names_at session s → LeavesFrom session names locks t
  leaving_first locks s t names listed forgets is = record {
    at = λ n none. not_marked session (lock_at n locks) (sym (listed session n) ∙ ap (mark_in n) (sym is) ∙ none);
    listed = λ x n apart. ap (mark_in n) (forgets.sessions x apart) ∙ listed x n;
    gone = λ n. ap (mark_in n) forgets.gone;
  }

  owed_gone : (locks es : Locks) → AllByRecursion (λ (e : List ℕ × LockValue). lookup (test e.0) locks ≡ Some e.1) es → ((n : List ℕ) → stands session (lock_at n locks) ≡ false) → owed_to session es ≡ []
  owed_gone locks [] all gone = refl
  owed_gone locks (e ∷ es) all gone =
      let here : lock_at e.0 locks ≡ e.1 = ap (λ (o : Option LockValue). unwrap_or o no_lock) all.0 in
      ap (λ (xs : List LockNotice). xs ++ owed_to session es) (not_owed_for session e.0 e.1 (ap (stands session) (sym here) ∙ gone e.0)) ∙ owed_gone locks es all.1 gone

  pub stands_no_more : (old new : Locks) → AllBecome old (without session) new → (n : List ℕ) → stands session (lock_at n new) ≡ false
  stands_no_more old new all n = ap (stands session) (all n) ∙ left session (lock_at n old)

  pub owed_no_more : (old new : Locks) → AllBecome old (without session) new → AscendByName new → owed_to session new ≡ []
  owed_no_more old new all ascend = owed_gone new new (found new ascend) (stands_no_more old new all)

-- ---- a session that was told all

pub told_listed : (session : ℕ) (old new : Locks) (s t : Sessions) → IsListed mark no_lock old s → AllBecome old (after_telling session) new → TellsAll session s t → IsListed mark no_lock new t
told_listed session old new s t listed all tells x n = by (x == session) refl
  where
    by : (b : Bool) → (x == session) ≡ b → mark_at x n t ≡ mark x (lock_at n new)
    by true e =
        subst (λ (y : ℕ). mark_at y n t ≡ mark y (lock_at n new)) (sym (eqb-true x session e))
        (tells.at n ∙ ap (option_map (λ _. false)) (listed session n) ∙ told_mark session (lock_at n old) ∙ sym (ap (mark session) (all n)))
    by false e =
        ap (mark_in n) (tells.sessions x (eqb-false x session e)) ∙ listed x n
        ∙ sym (ap (mark x) (all n) ∙ told_apart session (lock_at n old) x (eqb-false x session e))

-- where it had no names it stands nowhere
pub none_leaves : (session : ℕ) (locks : Locks) (s t : Sessions) → AscendByName locks → NoneIdle locks → IsListed mark no_lock locks s → Forgets session s t → [] ≡ names_at session s → Leaves session locks locks t
none_leaves session locks s t ascend none_idle listed forgets is =
    has_left session locks locks t (record { from = leaving_first session locks s t [] listed forgets is; same = λ n. refl; ascend = ascend; none_idle = none_idle })
