-- Parts that are looked at one after the other, as a loop does.
use Rattle.std.proofs.Common.{◌≡◌, ℕ, ◌≤◌, ◌<◌, List, [], ◌∷◌, ◌++◌, Bool, true, false, cond, Result, Ok, Err, inl, inr, refl, sym, ap, ◌∙◌, append_assoc, append-nil, arith}
use Rattle.std.proofs.lemmas.Bool.{leb-true, leb-false}
use Rattle.std.specs.Prelude.{String, string_bytes, nat_le, ◌⊎◌}
use Rattle.std.specs.declared.alloc.Global.{Global}
use Rattle.serde_json.specs.View.{view, members_view}
use Rattle.serde_json.specs.declared.value.Value.{Value}
use Rattle.serde_json.specs.Data.{Data, Members, no_members, member}
use Rattle.ovs_json.specs.Results.{result_map}
use Rattle.ovs_json.specs.FirstFault.{first_of, both, with_one, read_all, IsWorst}
use Rattle.ovs_json.specs.Members.{EachSpells, SomeMember}
use Rattle.ovs_json.proofs.Steps.{read_as, map_found}

module _ {E : Type 0} (rank : E → ℕ) where
  -- by what the tests of each two of the three say
  by_tests : (e f g : E) (ef fg eg : Bool) → nat_le (rank e) (rank f) ≡ ef → nat_le (rank f) (rank g) ≡ fg → nat_le (rank e) (rank g) ≡ eg
      → first_of rank (first_of rank e f) g ≡ first_of rank e (first_of rank f g)
  by_tests e f g true true true p q r = simp (p, q, r)
  by_tests e f g true true false p q r =
      let first : rank e ≤ rank f = leb-true (rank e) (rank f) p in
      let second : rank f ≤ rank g = leb-true (rank f) (rank g) q in
      let third : rank g < rank e = leb-false (rank e) (rank g) r in
      absurd (omega arith)
  by_tests e f g true false true p q r = simp (p, q, r)
  by_tests e f g true false false p q r = simp (p, q, r)
  by_tests e f g false true true p q r = simp (p, q)
  by_tests e f g false true false p q r = simp (p, q)
  by_tests e f g false false true p q r =
      let first : rank f < rank e = leb-false (rank e) (rank f) p in
      let second : rank g < rank f = leb-false (rank f) (rank g) q in
      let third : rank e ≤ rank g = leb-true (rank e) (rank g) r in
      absurd (omega arith)
  by_tests e f g false false false p q r = simp (p, q, r)

  pub first_of-assoc : (e f g : E) → first_of rank (first_of rank e f) g ≡ first_of rank e (first_of rank f g)
  first_of-assoc e f g = by_tests e f g _ _ _ refl refl refl

  -- what was read before, and the rest
  abbrev pub with_rest : {X : Type 0} → Result (List X) E → Result (List X) E → Result (List X) E
  with_rest so_far rest = result_map (λ p. p.0 ++ p.1) (both rank so_far rest)

  one_more : {X : Type 0} (so_far : Result (List X) E) (one : Result X E) (rest : Result (List X) E)
      → with_rest so_far (result_map (λ p. p.0 ∷ p.1) (both rank one rest)) ≡ with_rest (with_one rank so_far one) rest
  one_more (Ok xs) (Ok x) (Ok ys) = ap Ok (sym (append_assoc xs (x ∷ []) ys))
  one_more (Ok xs) (Ok x) (Err g) = refl
  one_more (Ok xs) (Err f) (Ok ys) = refl
  one_more (Ok xs) (Err f) (Err g) = refl
  one_more (Err e) (Ok x) (Ok ys) = refl
  one_more (Err e) (Ok x) (Err g) = refl
  one_more (Err e) (Err f) (Ok ys) = refl
  one_more (Err e) (Err f) (Err g) = ap Err (sym (first_of-assoc e f g))

  -- the step of a loop over an object's members
  pub goes_on : {X : Type 0} (read : List ℕ → Data → Result X E) (so_far next : Result (List X) E) (one : Result X E) (name : String Global) (v : Value)
      (rest : List (String Global × Value)) (all : Result (List X) E)
      → one ≡ read (string_bytes name) (view v) → next ≡ with_one rank so_far one
      → with_rest so_far (read_all rank read (members_view ((name, v) ∷ rest))) ≡ all → with_rest next (read_all rank read (members_view rest)) ≡ all
  goes_on read so_far next one name v rest all is_one is_next before =
      rw is_next (rw is_one (sym (one_more so_far (read (string_bytes name) (view v)) (read_all rank read (members_view rest))) ∙ before))

  pub with_rest-end : {X : Type 0} (so_far : Result (List X) E) → with_rest so_far (Ok []) ≡ so_far
  with_rest-end (Ok xs) = ap Ok (append-nil xs)
  with_rest-end (Err e) = refl

  -- two parts come of the two
  pub both_found : {A B : Type 0} (a : Result A E) (b : Result B E) (p : A × B) → both rank a b ≡ Ok p → (a ≡ Ok p.0) × (b ≡ Ok p.1)
  both_found {A = A} {B = B} (Ok x) (Ok y) p e = let same : ◌≡◌ {A = A × B} (x, y) p = cc in (ap (λ q. read_as q.0) same, ap (λ q. read_as q.1) same)
  both_found (Ok x) (Err f) p e = absurd cc
  both_found (Err e) (Ok y) p h = absurd cc
  both_found (Err e) (Err f) p h = absurd cc

  module _ {X : Type 0} (read : List ℕ → Data → Result X E) (S : List ℕ → Data → X → Type 0) where
    -- what the members are read as is what each of them spells
    pub all_found : ((s : List ℕ) (d : Data) (x : X) → read s d ≡ Ok x → S s d x) → (ms : Members) (xs : List X) → read_all rank read ms ≡ Ok xs → EachSpells S ms xs
    all_found one no_members [] e = tt
    all_found one no_members (x ∷ xs) e = absurd cc
    all_found one (member s d ms) [] e =
        let p = map_found (λ p. p.0 ∷ p.1) (both rank (read s d) (read_all rank read ms)) [] e in absurd cc
    all_found one (member s d ms) (x ∷ xs) e =
        let p = map_found (λ p. p.0 ∷ p.1) (both rank (read s d) (read_all rank read ms)) (x ∷ xs) e in
        let q = both_found (read s d) (read_all rank read ms) p.0 p.1 in
        let first : x ≡ p.0.0 = cc in
        let others : xs ≡ p.0.1 = cc in
        (one s d x (q.0 ∙ ap read_as (sym first)), all_found one ms xs (q.1 ∙ ap read_as (sym others)))

    -- what each of the members spells is what they are read as
    pub all_only : ((s : List ℕ) (d : Data) (x : X) → S s d x → read s d ≡ Ok x) → (ms : Members) (xs : List X) → EachSpells S ms xs → read_all rank read ms ≡ Ok xs
    all_only one no_members [] h = refl
    all_only one no_members (x ∷ xs) h = absurd h
    all_only one (member s d ms) [] h = absurd h
    all_only one (member s d ms) (x ∷ xs) h = rw (one s d x h.0, all_only one ms xs h.1) refl

  -- ---- the worst fault

  -- the same value under another form has the same faults
  pub map_worst : {A B : Type 0} (Has : E → Type 0) (f : A → B) (r : Result A E) → IsWorst rank Has r → IsWorst rank Has (result_map f r)
  map_worst Has f (Ok a) h = h
  map_worst Has f (Err e) h = h

  both_worst_by : (P Q : E → Type 0) (e f : E) (b : Bool) → nat_le (rank e) (rank f) ≡ b → IsWorst rank {X = Unit {0}} P (Err e) → IsWorst rank {X = Unit {0}} Q (Err f)
      → IsWorst rank {X = Unit {0}} (λ g. P g ⊎ Q g) (Err (cond b e f))
  both_worst_by P Q e f true test p q =
      let low : rank e ≤ rank f = leb-true (rank e) (rank f) test in
      (inl p.0, λ g h. elim h [ inl has ↦ p.1 g has | inr has ↦ (let other = q.1 g has in omega arith) ])
  both_worst_by P Q e f false test p q =
      let low : rank f < rank e = leb-false (rank e) (rank f) test in
      (inr q.0, λ g h. elim h [ inl has ↦ (let other = p.1 g has in omega arith) | inr has ↦ q.1 g has ])

  -- of two parts that are both looked at, the worst is the worst of the faults of either
  pub both_worst : {A B : Type 0} (P Q : E → Type 0) (a : Result A E) (b : Result B E) → IsWorst rank P a → IsWorst rank Q b → IsWorst rank (λ e. P e ⊎ Q e) (both rank a b)
  both_worst P Q (Ok x) (Ok y) p q = λ e h. elim h [ inl has ↦ p e has | inr has ↦ q e has ]
  both_worst P Q (Ok x) (Err f) p q = (inr q.0, λ g h. elim h [ inl has ↦ absurd (p g has) | inr has ↦ q.1 g has ])
  both_worst P Q (Err e) (Ok y) p q = (inl p.0, λ g h. elim h [ inl has ↦ p.1 g has | inr has ↦ absurd (q g has) ])
  both_worst P Q (Err e) (Err f) p q = both_worst_by P Q e f _ refl p q

  -- of all members, the worst is the worst of the faults of any
  pub all_worst : {X : Type 0} (Has : E → List ℕ → Data → Type 0) (read : List ℕ → Data → Result X E) → ((s : List ℕ) (d : Data) → IsWorst rank (λ e. Has e s d) (read s d))
      → (ms : Members) → IsWorst rank (λ e. SomeMember (Has e) ms) (read_all rank read ms)
  all_worst Has read one no_members = λ e h. absurd h
  all_worst Has read one (member s d ms) =
      map_worst (λ e. Has e s d ⊎ SomeMember (Has e) ms) (λ p. p.0 ∷ p.1) (both rank (read s d) (read_all rank read ms))
      (both_worst (λ e. Has e s d) (λ e. SomeMember (Has e) ms) (read s d) (read_all rank read ms) (one s d) (all_worst Has read one ms))

  -- a test has its fault exactly where it fails
  pub test_worst : {X : Type 0} (b : Bool) (x : X) (fault : E) → IsWorst rank (λ e. (e ≡ fault) × (b ≡ false)) (cond b (read_as x) (Err fault))
  test_worst true x fault = λ e h. absurd cc
  test_worst false x fault = ((refl, refl), λ f h. (let same : rank f ≡ rank fault = ap rank h.0 in omega arith))

  -- a part with one fault has it exactly where it spells nothing
  pub spelled_worst : {X : Type 0} (fault : E) (Spelled : X → Type 0) (r : Result X E) → ((e : E) → r ≡ Err e → e ≡ fault) → ((x : X) → r ≡ Ok x → Spelled x) → ((x : X) → Spelled x → r ≡ Ok x)
      → IsWorst rank (λ e. (e ≡ fault) × ((x : X) → Spelled x → ⊥)) r
  spelled_worst fault Spelled (Ok x) one found only = λ e h. h.1 x (found x refl)
  spelled_worst fault Spelled (Err e) one found only =
      let is : e ≡ fault = one e refl in
      ((is, λ x spelled. (let clash = only x spelled in absurd cc)), λ f h. (let same : rank f ≡ rank e = ap rank (h.0 ∙ sym is) in omega arith))
