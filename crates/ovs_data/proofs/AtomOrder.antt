-- The order of atoms is total, and only equal atoms tie.
use Rattle.std.proofs.Common.{◌≡◌, ℕ, pos, true, false, refl, ap}
use Rattle.std.specs.declared.cmp.Ordering.{Ordering}
use Rattle.std.specs.declared.cmp.Ordering.TheVariants.{Less, Equal, Greater}
use Rattle.std.specs.Ordering.{int_cmp, ordering_then}
use Rattle.std.specs.FinMap.{int_cmp-IsAntisymmetric, nat_cmp-IsAntisymmetric, slice_cmp-IsAntisymmetric}
use Rattle.ovs_data.specs.declared.atom.Atom.{Atom}
use Rattle.ovs_data.specs.declared.atom.Atom.TheVariants.{Integer, Boolean, String, Uuid}
pub use Rattle.ovs_data.specs.Atom.{atom_total}
use Rattle.ovs_data.specs.Atom.{atom_cmp}

first_equal : (o : Ordering) → ordering_then o Equal ≡ Equal → o ≡ Equal
first_equal Less e = e
first_equal Equal e = e
first_equal Greater e = e

pos_is : (m n : ℕ) → pos m ≡ pos n → m ≡ n
pos_is m n e = cc

pub atom_exact : (x y : Atom) → atom_cmp x y ≡ Equal → x ≡ y
atom_exact (Integer a) (Integer b) e = ap Integer (int_cmp-IsAntisymmetric a b (first_equal (int_cmp a b) e))
atom_exact (Integer a) (Boolean b) e = absurd cc
atom_exact (Integer a) (String b) e = absurd cc
atom_exact (Integer a) (Uuid b) e = absurd cc
atom_exact (Boolean a) (Integer b) e = absurd cc
atom_exact (Boolean true) (Boolean true) e = refl
atom_exact (Boolean true) (Boolean false) e = absurd cc
atom_exact (Boolean false) (Boolean true) e = absurd cc
atom_exact (Boolean false) (Boolean false) e = refl
atom_exact (Boolean a) (String b) e = absurd cc
atom_exact (Boolean a) (Uuid b) e = absurd cc
atom_exact (String a) (Integer b) e = absurd cc
atom_exact (String a) (Boolean b) e = absurd cc
atom_exact (String a) (String b) e = ap String (slice_cmp-IsAntisymmetric nat_cmp-IsAntisymmetric a b e)
atom_exact (String a) (Uuid b) e = absurd cc
atom_exact (Uuid a) (Integer b) e = absurd cc
atom_exact (Uuid a) (Boolean b) e = absurd cc
atom_exact (Uuid a) (String b) e = absurd cc
atom_exact (Uuid a) (Uuid b) e = ap Uuid (pos_is a b (int_cmp-IsAntisymmetric (pos a) (pos b) (first_equal (int_cmp (pos a) (pos b)) e)))
