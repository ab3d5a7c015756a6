-- Data of columns stay so when they are mutated.
use Rattle.std.proofs.Common.{◌≡◌, ℕ, zero, suc, ℤ, List, [], ◌∷◌, Bool, true, false, cond, ◌||◌, Some, None, Ok, Err, refl, sym, subst, ap, ◌∙◌}
use Rattle.std.specs.Prelude.{IsSome, slice_get, slice_set, ◌+ℤ◌, ◌-ℤ◌}
use Rattle.std.specs.Cmp.{Equal-is, tied_itself}
use Rattle.std.specs.Ordering.{is_eq}
use Rattle.ovs_data.specs.declared.atom.Atom.{Atom}
use Rattle.ovs_data.specs.declared.atom.Atom.TheVariants.{Integer, Boolean, String, Uuid}
use Rattle.ovs_data.specs.declared.atom.AtomKind.{AtomKind}
use Rattle.ovs_data.specs.declared.column.Column.{Column}
use Rattle.ovs_data.specs.declared.datum.Datum.{Datum}
use Rattle.ovs_data.specs.declared.datum.Datum.TheVariants as datum
use Rattle.ovs_data.specs.Atom.{kind_of, atom_cmp, atom_eq, atom_total}
use Rattle.ovs_data.specs.Column.{may_count, loose}
use Rattle.ovs_data.specs.Datum.{IsDatumOf, IsAlike, datum_len}
use Rattle.ovs_data.specs.Mutation.{inserted, deleted}
use Rattle.ovs_data.proofs.AtomOrder.{atom_exact}
use Rattle.ovs_data.proofs.Defaults.{IsDatumOf-default_datum}
use Rattle.ovs_data.proofs.Mutations.{inserted_stays, deleted_stays}
use Rattle.ovs_types.specs.declared.schema.NamedColumn.{NamedColumn}
use Rattle.ovs_rows.specs.Row.{AreDataOf}
use Rattle.ovs_json.specs.Results.{◌>>=◌}
use Rattle.ovs_operations.specs.declared.operation_error.OperationError.{OperationError}
use Rattle.ovs_operations.specs.declared.operation_error.OperationError.TheVariants.{Constraint}
use Rattle.ovs_operations.specs.declared.operation.Mutation.{Mutation}
use Rattle.ovs_operations.specs.declared.operation.Mutator.{Mutator}
use Rattle.ovs_operations.specs.declared.operation.Mutator.TheVariants.{Set, Add, Subtract, Insert, Delete}
use Rattle.ovs_operations.specs.OperationError.{Read}
use Rattle.ovs_operations.specs.Operation.{IsValueOf, IsMutationOf}
use Rattle.ovs_operations.specs.Mutating.{integer_in, in_range, computed, one_integer, counted, mutated, write_one, default_row}

-- ---- one datum

only_element : (x y : Atom) (b : Bool) → atom_eq x y ≡ b → (b || false) ≡ true → x ≡ y
only_element x y true same e = atom_exact x y ((Equal-is (atom_cmp x y)).0 same)
only_element x y false same e = absurd cc

-- an integer in the place of another
integer_kept : (c : Column) (old : Datum) (x z : ℤ) → IsDatumOf c old → integer_in old ≡ Ok x → IsDatumOf c (one_integer z)
integer_kept c (datum.Set []) x z of e = absurd cc
integer_kept c (datum.Set (Integer n ∷ [])) x z of e = record {
  shape = of.shape;
  order = (tt, tt);
  kinds = λ y is. ap kind_of (only_element y (Integer z) _ refl is) ∙ of.kinds (Integer n) (ap (λ o. is_eq o || false) (tied_itself atom_total (Integer n)));
  count = of.count;
}
integer_kept c (datum.Set (Boolean b ∷ [])) x z of e = absurd cc
integer_kept c (datum.Set (String s ∷ [])) x z of e = absurd cc
integer_kept c (datum.Set (Uuid id ∷ [])) x z of e = absurd cc
integer_kept c (datum.Set (Integer n ∷ (y ∷ ys))) x z of e = absurd cc
integer_kept c (datum.Set (Boolean b ∷ (y ∷ ys))) x z of e = absurd cc
integer_kept c (datum.Set (String s ∷ (y ∷ ys))) x z of e = absurd cc
integer_kept c (datum.Set (Uuid id ∷ (y ∷ ys))) x z of e = absurd cc
integer_kept c (datum.Map ps) x z of e = absurd cc

-- so where there is a sum the old datum is one integer
computed_kept : (c : Column) (f : ℤ → ℤ → ℤ) (old value d : Datum) → IsDatumOf c old → (computed f old value >>= λ n. Ok (one_integer n)) ≡ Ok d → IsDatumOf c d
computed_kept c f old value d of e = first (integer_in old) refl e
  where
    last : (x : ℤ) (r : Read ℤ) → integer_in old ≡ Ok x → (r >>= λ n. Ok (one_integer n)) ≡ Ok d → IsDatumOf c d
    last x (Ok n) is e = let same : one_integer n ≡ d = cc in subst (IsDatumOf c) same (integer_kept c old x n of is)
    last x (Err fault) is e = absurd cc

    first : (r : Read ℤ) → integer_in old ≡ r → ((r >>= λ x. integer_in value >>= λ y. in_range (f x y)) >>= λ n. Ok (one_integer n)) ≡ Ok d → IsDatumOf c d
    first (Ok x) is e = last x (integer_in value >>= λ y. in_range (f x y)) is e
    first (Err fault) is e = absurd cc

no_shape : IsSome {T = AtomKind} None → ⊥
no_shape e = cc

-- a set is inserted into a set, a map into a map
alike : (c : Column) (old value : Datum) → IsDatumOf c old → IsDatumOf (loose c) value → IsAlike old value
alike c (datum.Set xs) (datum.Set ys) of other = tt
alike c (datum.Map ps) (datum.Map qs) of other = tt
alike c (datum.Set xs) (datum.Map qs) of other = let none = subst IsSome of.shape other.shape in absurd (no_shape none)
alike c (datum.Map ps) (datum.Set ys) of other = let none = subst IsSome other.shape of.shape in absurd (no_shape none)

counted_kept : (c : Column) (made d : Datum) → (may_count c (datum_len made) ≡ true → IsDatumOf c made) → counted c made ≡ Ok d → IsDatumOf c d
counted_kept c made d kept e = by (may_count c (datum_len made)) kept e
  where
    by : (b : Bool) → (b ≡ true → IsDatumOf c made) → cond b (Ok made) (Err Constraint) ≡ Ok d → IsDatumOf c d
    by true kept e = let same : made ≡ d = cc in subst (IsDatumOf c) same (kept refl)
    by false kept e = absurd cc

pub mutated_kept : (c : Column) (m : Mutator) (old value d : Datum) → IsDatumOf c old → IsValueOf c m value → mutated c m old value ≡ Ok d → IsDatumOf c d
mutated_kept c Set old value d of is e = let same : value ≡ d = cc in subst (IsDatumOf c) same is
mutated_kept c Add old value d of is e = computed_kept c ◌+ℤ◌ old value d of e
mutated_kept c Subtract old value d of is e = computed_kept c ◌-ℤ◌ old value d of e
mutated_kept c Insert old value d of is e = counted_kept c (inserted old value) d (inserted_stays {F = OperationError} old value (Ok (inserted old value)) (alike c old value of is) refl c of is) e
mutated_kept c Delete old value d of is e = counted_kept c (deleted old value) d (deleted_stays {F = OperationError} old value (Ok (deleted old value)) refl c of) e

-- ---- the data of a row

pub datum_at : (cs : List NamedColumn) (row : List Datum) (i : ℕ) (named : NamedColumn) (old : Datum) → AreDataOf cs row → slice_get cs i ≡ Some named → slice_get row i ≡ Some old → IsDatumOf named.column old
datum_at [] row i named old all at there = absurd cc
datum_at (c ∷ cs) [] i named old all at there = absurd all
datum_at (c ∷ cs) (x ∷ xs) zero named old all at there =
    let column : c ≡ named = cc in
    let datum : x ≡ old = cc in
    subst (λ (n : NamedColumn). IsDatumOf n.column old) column (subst (IsDatumOf c.column) datum all.0)
datum_at (c ∷ cs) (x ∷ xs) (suc i) named old all at there = datum_at cs xs i named old all.1 at there

pub value_at : (cs : List NamedColumn) (m : Mutation) (named : NamedColumn) → IsMutationOf cs m → slice_get cs m.column ≡ Some named → IsValueOf named.column m.mutator m.value
value_at cs m named (other, there, value) at =
    let same : other ≡ named = cc in
    subst (λ (n : NamedColumn). IsValueOf n.column m.mutator m.value) same value

pub set_kept : (cs : List NamedColumn) (row : List Datum) (i : ℕ) (named : NamedColumn) (d : Datum) → AreDataOf cs row → slice_get cs i ≡ Some named → IsDatumOf named.column d → AreDataOf cs (slice_set row i d)
set_kept [] row i named d all at one = absurd cc
set_kept (c ∷ cs) [] i named d all at one = absurd all
set_kept (c ∷ cs) (x ∷ xs) zero named d all at one =
    let same : c ≡ named = cc in
    (subst (λ (n : NamedColumn). IsDatumOf n.column d) (sym same) one, all.1)
set_kept (c ∷ cs) (x ∷ xs) (suc i) named d all at one = (all.0, set_kept cs xs i named d all.1 at one)

-- what a mutation makes of them where its column is one of them
pub written : (cs : List NamedColumn) (row : List Datum) (m : Mutation) (named : NamedColumn) (old : Datum) (made : Read Datum) → slice_get cs m.column ≡ Some named → slice_get row m.column ≡ Some old → made ≡ mutated named.column m.mutator old m.value
    → (made >>= λ new. Ok (slice_set row m.column new)) ≡ write_one cs row m
written cs row m named old made at there is = rw (at, there, is) refl

pub defaults_kept : (cs : List NamedColumn) → AreDataOf cs (default_row cs)
defaults_kept [] = tt
defaults_kept (c ∷ cs) = (IsDatumOf-default_datum c.column, defaults_kept cs)
