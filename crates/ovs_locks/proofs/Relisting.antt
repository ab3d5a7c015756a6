-- The names of the sessions once one lock changed.
use Rattle.std.proofs.Common.{◌≡◌, ℕ, List, Bool, true, false, Option, Some, None, refl, sym, ap, subst, ◌∙◌}
use Rattle.std.specs.Prelude.{◌≢◌, ◌==◌, option_and_then}
use Rattle.std.proofs.lemmas.Bool.{eqb-true, eqb-false}
use Rattle.ovs_locks.specs.ByName.{ByName, named}
use Rattle.ovs_locks.specs.BySession.{Sessions, Notes, Remarks, RemarksAny, IsListed, mark_in, mark_at}
use Rattle.ovs_locks.proofs.ByName.{same_name}
use Rattle.ovs_locks.proofs.Gathering.{test, own_name}

pub other_name : (name n : List ℕ) → test name n ≡ false → n ≢ name
other_name name n e same = let clash = sym (own_name name) ∙ ap (test name) (sym same) ∙ e in absurd cc

nothing_more : (o v : Option Bool) → (o ≡ None → v ≡ None) → option_and_then (λ _. v) o ≡ v
nothing_more None v h = sym (h refl)
nothing_more (Some b) v h = refl

module _ {L : Type 0} (mark : ℕ → L → Option Bool) (unasked : L) where
  -- what one session makes of a lock brings in no other, and changes what is marked of it and of one that is near to it alone
  pub record Moves (session : ℕ) (near : Option ℕ) (l m : L) : Type 0 where
    pub alone : (x : ℕ) → x ≢ session → mark x l ≡ None → mark x m ≡ None
    pub apart : (x : ℕ) → x ≢ session → near ≢ Some x → mark x m ≡ mark x l

  module _ (session : ℕ) (name : List ℕ) (near : Option ℕ) (old new : ByName L)
      (others : (n : List ℕ) → n ≢ name → named unasked n new ≡ named unasked n old) (moves : Moves session near (named unasked name old) (named unasked name new)) where
    abbrev now : ℕ → Option Bool
    now x = mark x (named unasked name new)

    abbrev IsOf : Sessions → ByName L → ℕ → List ℕ → Type 0
    IsOf s locks x n = mark_at x n s ≡ mark x (named unasked n locks)

    -- under another name nothing changes
    elsewhere : (s u : Sessions) (o : Option ℕ) → RemarksAny now o name s u → (x : ℕ) (n : List ℕ) → n ≢ name → mark_at x n u ≡ mark_at x n s
    elsewhere s u None is x n ne = ap (mark_at x n) is
    elsewhere s u (Some a) is x n ne = by (x == a) refl
      where
        by : (b : Bool) → (x == a) ≡ b → mark_at x n u ≡ mark_at x n s
        by true e = let same = eqb-true x a e in subst (λ (y : ℕ). mark_at y n u ≡ mark_at y n s) (sym same) (is.others n ne)
        by false e = ap (mark_in n) (is.sessions x (eqb-false x a e))

    -- under this name
    here : (s u : Sessions) (o : Option ℕ) → near ≡ o → RemarksAny now o name s u → (x : ℕ) → x ≢ session → IsOf s old x name → IsOf u new x name
    here s u None is re x apart was = ap (mark_at x name) re ∙ was ∙ sym (moves.apart x apart (λ e. let clash = sym is ∙ e in absurd cc))
    here s u (Some a) is re x apart was = by (x == a) refl
      where
        by : (b : Bool) → (x == a) ≡ b → IsOf u new x name
        by true e =
            let same = eqb-true x a e in
            let at : mark_at x name u ≡ option_and_then (λ _. now x) (mark_at x name s) =
            subst (λ (y : ℕ). mark_at y name u ≡ option_and_then (λ _. now y) (mark_at y name s)) (sym same) re.at in
            at ∙ nothing_more (mark_at x name s) (now x) (λ none. moves.alone x apart (sym was ∙ none))
        by false e =
            ap (mark_in name) (re.sessions x (eqb-false x a e)) ∙ was
            ∙ sym (moves.apart x apart (λ at. let clash : Some a ≡ Some x = sym is ∙ at in let same : a ≡ x = cc in absurd (eqb-false x a e (sym same))))

    -- each other session's names are listed
    pub others_listed : (s u : Sessions) → ((x : ℕ) (n : List ℕ) → x ≢ session → IsOf s old x n) → RemarksAny now near name s u → (x : ℕ) (n : List ℕ) → x ≢ session → IsOf u new x n
    others_listed s u listed re x n apart = by (test name n) refl
      where
        by : (b : Bool) → test name n ≡ b → IsOf u new x n
        by true e = subst (λ (k : List ℕ). IsOf u new x k) (sym (same_name name n e)) (here s u near refl re x apart (listed x name apart))
        by false e = let ne = other_name name n e in elsewhere s u near re x n ne ∙ listed x n apart ∙ ap (mark x) (sym (others n ne))

    -- its own name isn't changed by what becomes of the other one
    own : (t u : Sessions) (o : Option ℕ) → RemarksAny now o name t u → mark_at session name t ≡ now session → mark_at session name u ≡ now session
    own t u None is at = ap (mark_at session name) is ∙ at
    own t u (Some a) is at = by (session == a) refl
      where
        by : (b : Bool) → (session == a) ≡ b → mark_at session name u ≡ now session
        by true e =
            let same = eqb-true session a e in
            let then : mark_at session name u ≡ option_and_then (λ _. now session) (mark_at session name t) =
            subst (λ (y : ℕ). mark_at y name u ≡ option_and_then (λ _. now y) (mark_at y name t)) (sym same) is.at in
            then ∙ nothing_more (mark_at session name t) (now session) (λ none. sym at ∙ none)
        by false e = ap (mark_in name) (is.sessions session (eqb-false session a e)) ∙ at

    pub relisted : (s t u : Sessions) → IsListed mark unasked old s → Notes s session name (now session) t → RemarksAny now near name t u → IsListed mark unasked new u
    relisted s t u listed note re x n = by (x == session) refl
      where
        rest : (y : ℕ) (k : List ℕ) → y ≢ session → IsOf t old y k
        rest y k apart = ap (mark_in k) (note.sessions y apart) ∙ listed y k

        its : (b : Bool) → test name n ≡ b → IsOf u new session n
        its true e = subst (λ (k : List ℕ). IsOf u new session k) (sym (same_name name n e)) (own t u near re note.at)
        its false e = let ne = other_name name n e in elsewhere t u near re session n ne ∙ note.others n ne ∙ listed session n ∙ ap (mark session) (sym (others n ne))

        by : (b : Bool) → (x == session) ≡ b → IsOf u new x n
        by true e = subst (λ (y : ℕ). IsOf u new y n) (sym (eqb-true x session e)) (its (test name n) refl)
        by false e = others_listed t u rest re x n (eqb-false x session e)

    -- the same, where the session's own mark is written only if its name is there
    pub remarked : (s t : Sessions) → IsListed mark unasked old s → Remarks now session name s t → (mark session (named unasked name old) ≡ None → now session ≡ None) → Notes s session name (now session) t
    remarked s t listed re none =
        subst (λ (o : Option Bool). Notes s session name o t) (nothing_more (mark_at session name s) (now session) (λ e. none (sym (listed session name) ∙ e))) re

no_more : (o v : Option Bool) → v ≡ None → option_and_then (λ _. v) o ≡ None
no_more None v e = refl
no_more (Some b) v e = e

-- a name that was entered was taken out again
pub taken_back : {L : Type 0} (mark : ℕ → L → Option Bool) (unasked : L) (session : ℕ) (name : List ℕ) (locks : ByName L) (s t u : Sessions) (m : Option Bool) → IsListed mark unasked locks s
    → mark session (named unasked name locks) ≡ None → Notes s session name m t → Notes t session name (option_and_then (λ _. None) (mark_at session name t)) u → IsListed mark unasked locks u
taken_back mark unasked session name locks s t u m listed none enters leaves x n = by (x == session) refl
  where
    its : (b : Bool) → test name n ≡ b → mark_at session n u ≡ mark session (named unasked n locks)
    its true e = subst (λ (k : List ℕ). mark_at session k u ≡ mark session (named unasked k locks)) (sym (same_name name n e)) (leaves.at ∙ no_more (mark_at session name t) None refl ∙ sym none)
    its false e = let ne = other_name name n e in leaves.others n ne ∙ enters.others n ne ∙ listed session n

    by : (b : Bool) → (x == session) ≡ b → mark_at x n u ≡ mark x (named unasked n locks)
    by true e = subst (λ (y : ℕ). mark_at y n u ≡ mark y (named unasked n locks)) (sym (eqb-true x session e)) (its (test name n) refl)
    by false e = ap (mark_in n) (leaves.sessions x (eqb-false x session e) ∙ enters.sessions x (eqb-false x session e)) ∙ listed x n
