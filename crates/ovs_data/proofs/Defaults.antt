-- The default of a column is a datum of it.
use Rattle.std.proofs.Common.{◌≡◌, Bool, true, false, cond, Option, Some, None, Result, Ok, Err, refl, sym, ap, subst, ◌∙◌}
use Rattle.std.specs.Prelude.{IsSome, IfOk, not, ◌||◌}
use Rattle.std.specs.Cmp.{Equal-is}
use Rattle.ovs_data.specs.declared.atom.Atom.{Atom}
use Rattle.ovs_data.specs.declared.atom.AtomKind.{AtomKind}
use Rattle.ovs_data.specs.declared.atom.AtomKind.TheVariants.{Integer, Boolean, String, Uuid}
use Rattle.ovs_data.specs.declared.column.Column.{Column}
use Rattle.ovs_data.specs.declared.datum.Datum.{Datum}
use Rattle.ovs_data.specs.Atom.{kind_of, default_atom, atom_cmp, atom_eq}
use Rattle.ovs_data.specs.Column.{is_single, may_count}
use Rattle.ovs_data.specs.Datum.{IsDatumOf, empty_of, one_default, default_datum}
use Rattle.ovs_data.proofs.AtomOrder.{atom_exact}

default_kind : (k : AtomKind) → kind_of (default_atom k) ≡ k
default_kind Integer = refl
default_kind Boolean = refl
default_kind String = refl
default_kind Uuid = refl

same_atom : (x y : Atom) → atom_eq x y ≡ true → x ≡ y
same_atom x y e = atom_exact x y ((Equal-is (atom_cmp x y)).0 e)

only_element : (x y : Atom) (b : Bool) → atom_eq x y ≡ b → (b || false) ≡ true → x ≡ y
only_element x y true same e = same_atom x y same
only_element x y false same e = absurd cc

only_pair : (k v a b : Atom) (t : Bool) → atom_eq k a ≡ t → cond t (Some b) None ≡ Some v → (k ≡ a) × (v ≡ b)
only_pair k v a b true same e = let value : b ≡ v = cc in (same_atom k a same, sym value)
only_pair k v a b false same e = absurd cc

or_true : (b : Bool) → (b || true) ≡ true
or_true true = refl
or_true false = refl

-- none may stand where the column may be empty, and one may always stand
no_count : (c : Column) → c.may_be_empty ≡ true → may_count c 0 ≡ true
no_count c optional = rw optional (or_true (not (is_single c)))

one_count : (c : Column) → may_count c 1 ≡ true
one_count c = or_true (not (is_single c))

default_of : (c : Column) (value : Option AtomKind) → c.value ≡ value → (b : Bool) → c.may_be_empty ≡ b → IsDatumOf c (cond b (empty_of value) (one_default c.key value))
default_of c None is true optional = record { shape = is; order = tt; kinds = λ x e. absurd cc; count = no_count c optional }
default_of c (Some kind) is true optional = record { shape = subst IsSome (sym is) refl; order = tt; kinds = λ k v e. absurd cc; count = no_count c optional }
default_of c None is false needed = record {
  shape = is;
  order = (tt, tt);
  kinds = λ x e. ap kind_of (only_element x (default_atom c.key) _ refl e) ∙ default_kind c.key;
  count = one_count c;
}
default_of c (Some kind) is false needed = record {
  shape = subst IsSome (sym is) refl;
  order = (tt, tt);
  kinds = λ k v e.
      let p = only_pair k v (default_atom c.key) (default_atom kind) _ refl e in
      (ap kind_of p.0 ∙ default_kind c.key, ap (λ x. Some (kind_of x)) p.1 ∙ ap Some (default_kind kind) ∙ sym is);
  count = one_count c;
}

pub IsDatumOf-default_datum : (c : Column) → IsDatumOf c (default_datum c)
IsDatumOf-default_datum c = default_of c c.value refl c.may_be_empty refl

-- for what a call answers
pub default_is_kept : {F : Type 0} (c : Column) (r : Result Datum F) → c.may_be_empty ≡ false → IfOk r (λ d. d ≡ one_default c.key c.value) → IfOk r (IsDatumOf c)
default_is_kept c (Ok d) needed is = subst (IsDatumOf c) (sym is) (default_of c c.value refl false needed)
default_is_kept c (Err e) needed is = tt
