-- What absorbing a step makes of a database with its steps.
use Rattle.std.proofs.Common.{◌≡◌, ◌≢◌, ◌<◌, ◌≤◌, ◌+◌, ◌^◌, ◌⊎◌, ⊎_elim, inl, inr, ℕ, Bool, true, false, cond, List, [], ◌∷◌, ◌++◌, length, length-append, fold, refl, sym, ap, subst, ◌∙◌, arith, append_assoc}
use Rattle.std.proofs.lemmas.Bool.{ltb-true, lt-ltb, le-ltb}
use Rattle.std.proofs.lemmas.List.{append-nil}
use Rattle.std.specs.Prelude.{nat_lt, ◌&&◌}
use Rattle.std.specs.List.{AllByRecursion}
use mathlib.Core.List.{IsPrefix}
use Rattle.ovs_types.specs.declared.schema.Schema.{Schema}
use Rattle.ovs_types.specs.declared.schema.Table.{Table}
use Rattle.ovs_rows.specs.Row.{Rows, AreRowsOf, no_rows}
use Rattle.ovs_rows.specs.After.{ArePutOf, applied_to}
use Rattle.ovs_rows.proofs.Admitting.{absorbed_whole, applied_put}
use Rattle.ovs_rows.proofs.Settled.{applied_to-old}
use Rattle.ovs_links.specs.Sets.{IsOfTables}
use Rattle.ovs_links.specs.Steps.{FoldedValue, folded_of, folded_with, step_of, tables_in}
use Rattle.ovs_links.specs.StepChains.{AreDistinctSteps, IsFoldedChain, NoStepIsStart, StepsJoinUp, start_of_steps, rows_after_steps}
use Rattle.ovs_links.specs.Absorbing.{AreStepsPutOf, IsStepChain, StepsGoOn, absorbed, absorbed_all, before_step, begins_anew, chain_by, chain_with, folded_by, folded_more, last_chain, no_steps, with_admitted, with_step}
use Rattle.ovs_links.specs.declared.link.Link.{Link}
use Rattle.ovs_links.specs.declared.step.Step.{Step}

-- ---- beginnings of a list

all_begin : (P : Step → Type 0) (xs rest : List Step) → AllByRecursion P (xs ++ rest) → AllByRecursion P xs
all_begin P [] rest h = tt
all_begin P (x ∷ xs) rest h = (h.0, all_begin P xs rest h.1)

prefix_on : (xs ys zs : List Step) → IsPrefix xs ys → IsPrefix ys zs → IsPrefix xs zs
prefix_on xs ys zs p q = (p.0 ++ q.0, sym (append_assoc xs p.0 q.0) ∙ ap (λ (l : List Step). l ++ q.0) p.1 ∙ q.1)

pub chain_begins : (schema : Schema) (xs ys : List Step) → IsPrefix xs ys → IsStepChain schema ys → IsStepChain schema xs
chain_begins schema xs ys p whole =
    record {
      chain = λ us q. whole.chain us (prefix_on us xs ys q p);
      of_tables = all_begin _ xs p.0 (subst (λ (l : List Step). AreStepsPutOf schema.description.tables l) (sym p.1) whole.of_tables);
    }

more_append : (cs xs ys : List Step) → fold chain_with cs (xs ++ ys) ≡ fold chain_with (fold chain_with cs xs) ys
more_append cs [] ys = refl
more_append cs (x ∷ xs) ys = more_append (chain_with cs x) xs ys

pub last_push : (xs : List Step) (s : Step) → last_chain (xs ++ s ∷ []) ≡ chain_with (last_chain xs) s
last_push xs s = more_append [] xs (s ∷ [])

-- ---- the last chain never goes back

pub true_false : true ≡ false → ⊥
true_false e = cc

both_true : (a b : Bool) → (a && b) ≡ true → a ≡ true
both_true true b e = refl
both_true false b e = absurd (true_false (sym e))

pub start_up : (xs ys zs : List Step) → xs ++ ys ≡ zs → start_of_steps xs ≤ start_of_steps zs
start_up [] ys zs e = omega arith
start_up (x ∷ xs) ys zs e = let same = ap start_of_steps e in omega (arith, same)

start_stays : (n : ℕ) (xs ys zs : List Step) → xs ++ ys ≡ zs → n < start_of_steps xs → n < start_of_steps zs
start_stays n xs ys zs e lt = let up = start_up xs ys zs e in omega (arith, up, lt)

pub goes_on : (xs ys zs : List Step) → StepsGoOn xs ys → StepsGoOn ys zs → StepsGoOn xs zs
goes_on xs ys zs (inl (rest, e)) (inl (more, d)) =
    inl (rest ++ more, sym (append_assoc xs rest more) ∙ ap (λ (ss : List Step). ss ++ more) e ∙ d)
goes_on xs ys zs (inl (rest, e)) (inr lt) = inr (let up = start_up xs rest ys e in omega (arith, up, lt))
goes_on xs ys zs (inr lt) (inl (more, d)) = inr (start_stays (start_of_steps xs) ys more zs d lt)
goes_on xs ys zs (inr lt) (inr past) = inr (omega (arith, lt, past))

one_step : (xs : List Step) (s : Step) → StepsGoOn xs (chain_with xs s)
one_step xs s = by_test (begins_anew xs s) refl
  where
    by_test : (b : Bool) → begins_anew xs s ≡ b → StepsGoOn xs (chain_with xs s)
    by_test true e =
        subst (λ (b : Bool). StepsGoOn xs (cond b (s ∷ []) (xs ++ s ∷ []))) (sym e)
        (inr (ltb-true (start_of_steps xs) s.prev (both_true (nat_lt (start_of_steps xs) s.prev) (nat_lt s.prev (2 ^ 64)) e)))
    by_test false e = subst (λ (b : Bool). StepsGoOn xs (cond b (s ∷ []) (xs ++ s ∷ []))) (sym e) (inl (s ∷ [], refl))

more_steps : (xs ss : List Step) → StepsGoOn xs (fold chain_with xs ss)
more_steps xs [] = inl ([], append-nil xs)
more_steps xs (s ∷ ss) = goes_on xs (chain_with xs s) (fold chain_with (chain_with xs s) ss) (one_step xs s) (more_steps (chain_with xs s) ss)

pub onward : (xs ys : List Step) → IsPrefix xs ys → StepsGoOn (last_chain xs) (last_chain ys)
onward xs ys p =
    subst (λ (l : List Step). StepsGoOn (last_chain xs) (last_chain l)) p.1
    (subst (λ (g : List Step). StepsGoOn (last_chain xs) g) (sym (more_append [] xs p.0)) (more_steps (last_chain xs) p.0))

-- ---- it is the last of the steps

abbrev EndsWith : List Step → List Step → Type 0
EndsWith all ss = (before : List Step) × (before ++ ss ≡ all)

last_of : (xs : List Step) (s : Step) (all : List Step) → EndsWith all xs → EndsWith (all ++ s ∷ []) (chain_with xs s)
last_of xs s all (before, e) = by_test (begins_anew xs s)
  where
    by_test : (b : Bool) → EndsWith (all ++ s ∷ []) (cond b (s ∷ []) (xs ++ s ∷ []))
    by_test true = (all, refl)
    by_test false = (before, sym (append_assoc before xs (s ∷ [])) ∙ ap (λ (ss : List Step). ss ++ s ∷ []) e)

steps_last : (xs all ss : List Step) → EndsWith all xs → EndsWith (all ++ ss) (fold chain_with xs ss)
steps_last xs all [] e = subst (λ (l : List Step). EndsWith l xs) (sym (append-nil all)) e
steps_last xs all (s ∷ ss) e =
    subst (λ (l : List Step). EndsWith l (fold chain_with (chain_with xs s) ss)) (append_assoc all (s ∷ []) ss) (steps_last (chain_with xs s) (all ++ s ∷ []) ss (last_of xs s all e))

pub is_last : (ss : List Step) → EndsWith ss (last_chain ss)
is_last ss = steps_last [] [] ss ([], refl)

-- so it has no more steps
pub no_more : (ss : List Step) → length (last_chain ss) ≤ length ss
no_more ss =
    let l = is_last ss in
    let size = length-append l.0 (last_chain ss) in
    let same = ap length l.1 in
    omega (arith, size, same)

-- ---- where it begins and how many steps it has, after one more

pub begun_start : (xs : List Step) (s : Step) → begins_anew xs s ≡ true → (start_of_steps (chain_with xs s) ≡ s.prev) × (length (chain_with xs s) ≡ 1)
begun_start xs s e = subst (λ (b : Bool). (start_of_steps (cond b (s ∷ []) (xs ++ s ∷ [])) ≡ s.prev) × (length (cond b (s ∷ []) (xs ++ s ∷ [])) ≡ 1)) (sym e) (refl, refl)

pub none_start : (xs : List Step) (s : Step) → length xs ≡ 0 → (start_of_steps (chain_with xs s) ≡ s.prev) × (length (chain_with xs s) ≡ 1)
none_start (x ∷ xs) s e = absurd (omega (arith, e))
none_start [] s e = by (begins_anew [] s)
  where
    by : (b : Bool) → (start_of_steps (cond b (s ∷ []) (s ∷ [])) ≡ s.prev) × (length (cond b (s ∷ []) (s ∷ [])) ≡ 1)
    by true = (refl, refl)
    by false = (refl, refl)

pub more_start : (xs : List Step) (s : Step) → begins_anew xs s ≡ false → 0 < length xs → (start_of_steps (chain_with xs s) ≡ start_of_steps xs) × (length (chain_with xs s) ≡ length xs + 1)
more_start [] s e some = absurd (omega (arith, some))
more_start (x ∷ xs) s e some =
    subst (λ (b : Bool). (start_of_steps (cond b (s ∷ []) ((x ∷ xs) ++ s ∷ [])) ≡ x.prev) × (length (cond b (s ∷ []) ((x ∷ xs) ++ s ∷ [])) ≡ length (x ∷ xs) + 1)) (sym e)
    (refl, length-append (x ∷ xs) (s ∷ []))

-- ---- none of the rows is left out

before_schema : (b : Bool) (f : FoldedValue) → (cond b (no_steps f.database.schema) f).database.schema ≡ f.database.schema
before_schema true f = refl
before_schema false f = refl

admitted_more : (f : FoldedValue) (s : Step) → ArePutOf (tables_in f) s.applied → with_admitted f s ≡ with_step f s
admitted_more f s put i =
    record {
      database = record { schema = f.database.schema; rows = absorbed_whole (tables_in f) f.database.rows s.applied put i };
      steps = f.steps ++ s ∷ [];
    }

-- where all rows of a step may stand in the tables, none is left out
pub absorbed_more : (f : FoldedValue) (s : Step) → ArePutOf (tables_in f) s.applied → absorbed f s ≡ folded_more f s
absorbed_more f s put =
    admitted_more (before_step f s) s
    (subst (λ (x : Schema). ArePutOf x.description.tables s.applied) (sym (before_schema (begins_anew f.steps s) f)) put)

-- the step of a link, absorbed, is the link folded
pub absorbed_link : (f : FoldedValue) (l : Link) → begins_anew f.steps (step_of (tables_in f) f.database.rows l) ≡ false → AreRowsOf (tables_in f) f.database.rows → IsOfTables (tables_in f) l
    → absorbed f (step_of (tables_in f) f.database.rows l) ≡ folded_with f l
absorbed_link f l goes rows change =
    let ts = tables_in f in
    let s = step_of ts f.database.rows l in
    ap (λ (b : Bool). with_admitted (cond b (no_steps f.database.schema) f) s) goes
    ∙ admitted_more f s (applied_put ts f.database.rows l.change l.id rows change)
    ∙ (λ i. record {
      database = record { schema = f.database.schema; rows = applied_to-old ts f.database.rows l.id l.change i };
      steps = f.steps ++ s ∷ [];
    })

rows_more : (rows : Rows) (xs : List Step) (s : Step) → rows_after_steps rows (xs ++ s ∷ []) ≡ applied_to (rows_after_steps rows xs) s.applied
rows_more rows [] s = refl
rows_more rows (x ∷ xs) s = rows_more (applied_to rows x.applied) xs s

with_more : (schema : Schema) (xs : List Step) (s : Step) → with_step (chain_by schema xs) s ≡ chain_by schema (xs ++ s ∷ [])
with_more schema xs s i = record { database = record { schema = schema; rows = sym (rows_more no_rows xs s) i }; steps = xs ++ s ∷ [] }

chain_more : (schema : Schema) (xs : List Step) (s : Step) → folded_more (chain_by schema xs) s ≡ chain_by schema (chain_with xs s)
chain_more schema xs s = by (begins_anew xs s)
  where
    by : (b : Bool) → with_step (cond b (no_steps schema) (chain_by schema xs)) s ≡ chain_by schema (cond b (s ∷ []) (xs ++ s ∷ []))
    by true = refl
    by false = with_more schema xs s

-- one step more
pub folded_next : (schema : Schema) (xs : List Step) (s : Step) → folded_more (folded_by schema xs) s ≡ folded_by schema (xs ++ s ∷ [])
folded_next schema xs s = chain_more schema (last_chain xs) s ∙ ap (chain_by schema) (sym (last_push xs s))

-- steps absorbed one after the other
absorbed_from : (schema : Schema) (xs ss : List Step) → AreStepsPutOf schema.description.tables ss → absorbed_all (chain_by schema xs) ss ≡ chain_by schema (fold chain_with xs ss)
absorbed_from schema xs [] put = refl
absorbed_from schema xs (s ∷ ss) put =
    ap (λ (g : FoldedValue). absorbed_all g ss) (absorbed_more (chain_by schema xs) s put.0 ∙ chain_more schema xs s)
    ∙ absorbed_from schema (chain_with xs s) ss put.1

pub absorbed_by : (schema : Schema) (ss : List Step) → AreStepsPutOf schema.description.tables ss → absorbed_all (folded_of schema []) ss ≡ folded_by schema ss
absorbed_by schema ss put = absorbed_from schema [] ss put

-- ---- lists that go on with one more step

prefix_split : (xs us : List Step) (s : Step) → IsPrefix us (xs ++ s ∷ []) → IsPrefix us xs ⊎ (us ≡ xs ++ s ∷ [])
prefix_split xs [] s p = inl (xs, refl)
prefix_split [] (u ∷ us) s (rest, e) =
    let first : u ≡ s = cc e in
    let later : us ++ rest ≡ [] = cc e in
    inr (λ i. first i ∷ none us rest later i)
  where
    none : (us rest : List Step) → us ++ rest ≡ [] → us ≡ []
    none [] rest e = refl
    none (u ∷ us) rest e = absurd cc
prefix_split (x ∷ xs) (u ∷ us) s (rest, e) =
    let first : u ≡ x = cc e in
    let later : us ++ rest ≡ xs ++ s ∷ [] = cc e in
    ⊎_elim (λ (p : IsPrefix us xs). inl (p.0, (λ i. first i ∷ p.1 i)))
    (λ (same : us ≡ xs ++ s ∷ []). inr (λ i. first i ∷ same i)) (prefix_split xs us s (rest, later))

put_append : (ts : List Table) (xs : List Step) (s : Step) → AreStepsPutOf ts xs → ArePutOf ts s.applied → AreStepsPutOf ts (xs ++ s ∷ [])
put_append ts [] s all one = (one, tt)
put_append ts (x ∷ xs) s all one = (all.0, put_append ts xs s all.1 one)

pub chain_push : (schema : Schema) (xs : List Step) (s : Step) → IsStepChain schema xs → IsFoldedChain (chain_by schema (chain_with (last_chain xs) s)) → ArePutOf schema.description.tables s.applied
    → IsStepChain schema (xs ++ s ∷ [])
chain_push schema xs s is next put =
    let whole : IsFoldedChain (folded_by schema (xs ++ s ∷ [])) = subst (λ (l : List Step). IsFoldedChain (chain_by schema l)) (sym (last_push xs s)) next in
    record {
      chain = λ us p. ⊎_elim (λ (q : IsPrefix us xs). is.chain us q) (λ (e : us ≡ xs ++ s ∷ []). subst (λ (l : List Step). IsFoldedChain (folded_by schema l)) (sym e) whole) (prefix_split xs us s p);
      of_tables = put_append schema.description.tables xs s is.of_tables put;
    }

-- ---- one chain

joined_begin : (from : ℕ) (rows : Rows) (xs rest : List Step) → StepsJoinUp from rows (xs ++ rest) → StepsJoinUp from rows xs
joined_begin from rows [] rest h = tt
joined_begin from rows (x ∷ xs) rest h = (h.0, h.1, joined_begin x.id (applied_to rows x.applied) xs rest h.2)

distinct_begin : (xs rest : List Step) → AreDistinctSteps (xs ++ rest) → AreDistinctSteps xs
distinct_begin [] rest h = tt
distinct_begin (x ∷ xs) rest h = (all_begin (λ t. t.id ≢ x.id) xs rest h.0, distinct_begin xs rest h.1)

begin_of : (schema : Schema) (xs rest : List Step) → IsFoldedChain (chain_by schema (xs ++ rest)) → IsFoldedChain (chain_by schema xs)
begin_of schema [] rest is = record { start = omega arith; joined = tt; distinct = tt; no_start = tt; rows = refl }
begin_of schema (x ∷ xs) rest is =
    record {
      start = is.start;
      joined = joined_begin x.prev no_rows (x ∷ xs) rest is.joined;
      distinct = distinct_begin (x ∷ xs) rest is.distinct;
      no_start = all_begin _ (x ∷ xs) rest is.no_start;
      rows = refl;
    }

pub one_chain_begins : (schema : Schema) (xs ys : List Step) → IsPrefix xs ys → IsFoldedChain (chain_by schema ys) → IsFoldedChain (chain_by schema xs)
one_chain_begins schema xs ys p whole = begin_of schema xs p.0 (subst (λ (l : List Step). IsFoldedChain (chain_by schema l)) (sym p.1) whole)

-- the id before a step that is not the first is no start
prev_past : (from : ℕ) (rows : Rows) (x s : Step) (xs : List Step) → StepsJoinUp from rows ((x ∷ xs) ++ s ∷ []) → NoStepIsStart ((x ∷ xs) ++ s ∷ []) → 2 ^ 64 ≤ s.prev
prev_past from rows x s [] j past = let same = j.2.0 in let big = past.0 in omega (arith, same, big)
prev_past from rows x s (y ∷ xs) j past = prev_past x.id (applied_to rows x.applied) y s xs j.2 past.1

not_below : (a b : ℕ) → 2 ^ 64 ≤ b → (nat_lt a b && nat_lt b (2 ^ 64)) ≡ false
not_below a b le = false_right (nat_lt a b) (nat_lt b (2 ^ 64)) (le-ltb b (2 ^ 64) le)
  where
    false_right : (p q : Bool) → q ≡ false → (p && q) ≡ false
    false_right true q e = e
    false_right false q e = refl

below : (a b : ℕ) → a < b → b < 2 ^ 64 → (nat_lt a b && nat_lt b (2 ^ 64)) ≡ true
below a b lt under = both (nat_lt a b) (nat_lt b (2 ^ 64)) (lt-ltb a b lt) (lt-ltb b (2 ^ 64) under)
  where
    both : (p q : Bool) → p ≡ true → q ≡ true → (p && q) ≡ true
    both true q e d = d
    both false q e d = absurd (true_false (sym e))

-- the next step of a chain goes on with it
pub next_of_chain : (schema : Schema) (xs : List Step) (s : Step) → IsFoldedChain (chain_by schema (xs ++ s ∷ [])) → chain_with xs s ≡ xs ++ s ∷ []
next_of_chain schema [] s is = by (begins_anew [] s)
  where
    by : (b : Bool) → cond b (s ∷ []) (s ∷ []) ≡ s ∷ []
    by true = refl
    by false = refl
next_of_chain schema (x ∷ xs) s is =
    ap (λ (b : Bool). cond b (s ∷ []) ((x ∷ xs) ++ s ∷ [])) (not_below x.prev s.prev (prev_past x.prev no_rows x s xs is.joined is.no_start))

-- a step from a greater start stands alone
pub first_of_chain : (xs : List Step) (s : Step) → start_of_steps xs < s.prev → s.prev < 2 ^ 64 → chain_with xs s ≡ s ∷ []
first_of_chain xs s lt under = ap (λ (b : Bool). cond b (s ∷ []) (xs ++ s ∷ [])) (below (start_of_steps xs) s.prev lt under)
