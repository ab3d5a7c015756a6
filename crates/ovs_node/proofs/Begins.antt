-- The chain of a store's steps, and how much of it was shown.
use Rattle.std.proofs.Common.{OnOk, Result, Ok, Err, ◌≡◌, ◌≢◌, ◌<◌, ◌≤◌, ◌+◌, ◌⊎◌, ⊎_elim, inl, inr, ℕ, zero, suc, List, [], ◌∷◌, ◌++◌, length, length-append, take, get_or, refl, sym, ap, ◌∙◌, subst, arith}
use Rattle.std.proofs.Math.Seq.{take-length}
use Rattle.std.specs.List.{AllByRecursion}
use mathlib.Core.List.{IsPrefix}
use Rattle.ovs_types.specs.Schema.{SchemaValue}
use Rattle.ovs_types.specs.declared.schema.Table.{Table}
use Rattle.ovs_rows.specs.Row.{Rows, AreRowsOf, no_rows}
use Rattle.ovs_rows.specs.After.{after}
use Rattle.ovs_rows.proofs.Admitting.{applied_put}
use Rattle.ovs_rows.proofs.Laws.{no_rows_of, rows_after as rows_after_of}
use Rattle.ovs_links.specs.Absorbing.{AreStepsPutOf, IsStepChain, StepsGoOn, chain_by, chain_with, folded_by, last_chain}
use Rattle.ovs_links.specs.Chains.{GrowsInto}
use Rattle.ovs_links.specs.Sets.{AllOf, Holds, IsOfTables}
use Rattle.ovs_links.specs.Settling.{after_settle, chain_of, settled_of}
use Rattle.ovs_links.specs.StepChains.{IsFoldedChain, start_of_steps}
use Rattle.ovs_links.specs.Steps.{folded_of, step_of, steps_of}
use Rattle.ovs_links.specs.Store.{Stored, IsStore, tables_of}
use Rattle.ovs_links.specs.declared.link.Link.{Link}
use Rattle.ovs_links.specs.declared.step.Step.{Step}
use Rattle.ovs_links.proofs.AbsorbingLemmas.{chain_push, first_of_chain, last_push, next_of_chain, one_chain_begins}
use Rattle.ovs_links.proofs.ChainLemmas.{AllOf-weaker}
use Rattle.ovs_reader.proofs.Fitting.{all_append}
use Rattle.ovs_reader.proofs.Showing.{first_shown, grown_steps}
use Rattle.ovs_reader.specs.Session.{AreStepsOf}
use Rattle.ovs_query.specs.Updates.{AreTouchedOf}
use Rattle.ovs_views.specs.Published.{IsNodeChain}
use Rattle.ovs_node.specs.InStep.{HasShown, IsOneChain}
use Rattle.ovs_node.specs.Ledger.{steps_in}

-- ---- one step more

all_at : (P : Step → Type 0) (ys : List Step) (n : ℕ) (d : Step) → AllByRecursion P ys → n < length ys → P (get_or ys n d)
all_at P [] n d h lt = absurd (omega (arith, lt))
all_at P (y ∷ ys) zero d h lt = h.0
all_at P (y ∷ ys) (suc n) d h lt = all_at P ys n d h.1 (omega (arith, lt))

take_more : (ys : List Step) (n : ℕ) (d : Step) → n < length ys → take n ys ++ get_or ys n d ∷ [] ≡ take (suc n) ys
take_more [] n d lt = absurd (omega (arith, lt))
take_more (y ∷ ys) zero d lt = refl
take_more (y ∷ ys) (suc n) d lt = ap (λ (l : List Step). y ∷ l) (take_more ys n d (omega (arith, lt)))

take_begins : (ys : List Step) (n : ℕ) → IsPrefix (take n ys) ys
take_begins [] zero = ([], refl)
take_begins [] (suc n) = ([], refl)
take_begins (y ∷ ys) zero = (y ∷ ys, refl)
take_begins (y ∷ ys) (suc n) = let t = take_begins ys n in (t.0, ap (λ (l : List Step). y ∷ l) t.1)

-- what the next step makes of what was shown
next_chain : (schema : SchemaValue) (xs ys : List Step) (n : ℕ) (d : Step) → IsFoldedChain (chain_by schema ys) → HasShown xs ys n → n < length ys
    → chain_with xs (get_or ys n d) ≡ take (suc n) ys
next_chain schema xs ys n d whole (inl (le, e)) lt =
    let s = get_or ys n d in
    let more = take_more ys n d lt in
    let part : IsFoldedChain (chain_by schema (take n ys ++ s ∷ [])) = subst (λ (l : List Step). IsFoldedChain (chain_by schema l)) (sym more) (one_chain_begins schema (take (suc n) ys) ys (take_begins ys (suc n)) whole) in
    ap (λ (l : List Step). chain_with l s) e ∙ next_of_chain schema (take n ys) s part ∙ more
next_chain schema xs [] n d whole (inr (z, past)) lt = absurd (omega (arith, lt))
next_chain schema xs (y ∷ ys) n d whole (inr (z, past)) lt =
    let first : get_or (y ∷ ys) n d ≡ y = ap (λ (k : ℕ). get_or (y ∷ ys) k d) z in
    ap (λ (s : Step). chain_with xs s) first ∙ first_of_chain xs y past whole.start ∙ ap (λ (k : ℕ). take (suc k) (y ∷ ys)) (sym z)

suc_is : (n : ℕ) → suc n ≡ n + 1
suc_is n = omega arith

pub next_shown : (schema : SchemaValue) (all ys : List Step) (n : ℕ) (d : Step) → IsNodeChain schema all → IsOneChain schema ys → HasShown (last_chain all) ys n → n < length ys
    → IsNodeChain schema (all ++ get_or ys n d ∷ []) × HasShown (last_chain (all ++ get_or ys n d ∷ [])) ys (n + 1)
next_shown schema all ys n d is one shown lt =
    let s = get_or ys n d in
    let ts = schema.description.tables in
    let next = next_chain schema (last_chain all) ys n d one.chain shown lt in
    let part : IsFoldedChain (chain_by schema (chain_with (last_chain all) s)) = subst (λ (l : List Step). IsFoldedChain (chain_by schema l)) (sym next) (one_chain_begins schema (take (suc n) ys) ys (take_begins ys (suc n)) one.chain) in (
      record {
        chain = chain_push schema all s is.chain part (all_at _ ys n d one.put lt);
        of_tables = all_append (λ (t : Step). AreTouchedOf ts t.applied) all (s ∷ []) is.of_tables (all_at _ ys n d one.of_tables lt, tt);
      },
      inl (omega (arith, lt), last_push all s ∙ next ∙ ap (λ (k : ℕ). take k ys) (suc_is n)),
    )

pub shown_begins : (xs ys : List Step) (n : ℕ) → HasShown xs ys n → StepsGoOn xs ys
shown_begins xs ys n (inl (le, e)) = inl (subst (λ (l : List Step). IsPrefix l ys) (sym e) (take_begins ys n))
shown_begins xs ys n (inr (z, past)) = inr past

pub all_shown : (xs ys : List Step) (n : ℕ) → HasShown xs ys n → length ys ≤ n → xs ≡ ys
all_shown xs ys n (inl (le, e)) past =
    let n_is : n ≡ length ys = omega (arith, le, past) in e ∙ ap (λ (k : ℕ). take k ys) n_is ∙ take-length ys
all_shown xs [] n (inr (z, lt)) past = absurd (omega (arith, lt))
all_shown xs (y ∷ ys) n (inr (z, lt)) past = absurd (omega (arith, z, past))

prefix_take : (xs ys : List Step) → IsPrefix xs ys → (length xs ≤ length ys) × (xs ≡ take (length xs) ys)
prefix_take xs ys p = (let size = length-append xs p.0 in let same = ap length p.1 in omega (arith, size, same), by xs ys p.0 p.1)
  where
    by : (xs ys rest : List Step) → xs ++ rest ≡ ys → xs ≡ take (length xs) ys
    by [] ys rest e = refl
    by (x ∷ xs) [] rest e = absurd (cc e)
    by (x ∷ xs) (y ∷ ys) rest e =
        let first : x ≡ y = cc e in
        let later : xs ++ rest ≡ ys = cc e in
        (λ i. first i ∷ by xs ys rest later i)

pub first_same : (xs ys : List Step) → StepsGoOn xs ys → start_of_steps xs ≡ start_of_steps ys → HasShown xs ys (length xs)
first_same xs ys (inl p) same = inl (prefix_take xs ys p)
first_same xs ys (inr lt) same = absurd (omega (arith, lt, same))

pub first_other : (xs ys : List Step) → StepsGoOn xs ys → start_of_steps xs ≢ start_of_steps ys → HasShown xs ys 0
first_other [] ys (inl p) other = inl (omega arith, refl)
first_other (x ∷ xs) ys (inl p) other = absurd (other (ap start_of_steps p.1))
first_other xs ys (inr lt) other = inr (refl, lt)

-- no steps
empty_prefix : (xs : List Step) → IsPrefix xs [] → xs ≡ []
empty_prefix [] p = refl
empty_prefix (x ∷ xs) p = absurd (cc (p.1))

pub none_chain : (schema : SchemaValue) → IsNodeChain schema []
none_chain schema = record {
  chain = record {
    chain = λ xs p. subst (λ (l : List Step). IsFoldedChain (folded_by schema l)) (sym (empty_prefix xs p)) (record { start = omega arith; joined = tt; distinct = tt; no_start = tt; rows = refl });
    of_tables = tt;
  };
  of_tables = tt;
}

-- nothing was shown yet of no steps
pub none_shown : (xs : List Step) → xs ≡ [] → StepsGoOn (last_chain xs) []
none_shown xs e = subst (λ (l : List Step). StepsGoOn (last_chain l) []) (sym e) (inl ([], refl))

-- ---- the steps of a store

pub steps_grow : (s t : Stored) → t.schema ≡ s.schema → GrowsInto s.folded t.folded → StepsGoOn (steps_in s) (steps_in t)
steps_grow s t same grows =
    let ts = s.schema.description.tables in
    subst (λ (schema : SchemaValue). StepsGoOn (steps_in s) (steps_of schema.description.tables no_rows t.folded)) (sym same) (grown_steps ts s.folded t.folded grows)

steps_put : (ts : List Table) (rows : Rows) (ls : List Link) → AreRowsOf ts rows → AllOf (IsOfTables ts) ls → AreStepsPutOf ts (steps_of ts rows ls)
steps_put ts rows [] h k = tt
steps_put ts rows (l ∷ ls) h k =
    (applied_put ts rows l.change l.id h k.0, steps_put ts (after ts rows l.change l.id) ls (rows_after_of ts rows l.change l.id h k.0) k.1)

pub store_chain : (s : Stored) → IsStore s → IsFoldedChain (folded_of s.schema s.folded) → IsOneChain s.schema (steps_in s)
store_chain s is chain =
    let ts = tables_of s in
    record {
      chain = record { start = chain.start; joined = chain.joined; distinct = chain.distinct; no_start = chain.no_start; rows = refl };
      put = steps_put ts no_rows s.folded (no_rows_of ts) (AllOf-weaker (Holds s.links) (IsOfTables ts) is.changes s.folded is.chain.members);
      of_tables = (first_shown s is).steps;
    }

-- a store with its longest chain folded has the same longest chain
pub settled_chain : (s t : Stored) → t ≡ after_settle s → t.folded ≡ chain_of t
unfolding chain_of
settled_chain s t e = rw e refl

-- it answers the same as the one before it was settled
pub settled_again : (s t : Stored) → t ≡ after_settle s → settled_of t ≡ settled_of s
unfolding chain_of
settled_again s t e = rw e refl

pub on_ok_then : {T E : Type 0} (r : Result T E) (P Q : Type 0) → OnOk r P → (P → Q) → OnOk r Q
on_ok_then (Ok x) P Q p f = f p
on_ok_then (Err e) P Q p f = tt
