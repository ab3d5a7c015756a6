-- Atoms: their kinds, their defaults and their order (RFC 7047 section 5.1).
use Rattle.std.specs.Prelude.{ℕ, ◌<◌, ◌^◌, ℤ, pos, negsuc, Bool, true, false, List, []}
use Rattle.std.specs.declared.cmp.Ordering.{Ordering}
use Rattle.std.specs.Ordering.{nat_cmp, int_cmp, on, then_cmp, is_eq}
use Rattle.std.specs.Cmp.{IsTotalOrder, then_total, on_total, nat_cmp_total, int_cmp_total}
use Rattle.std.specs.Cmp.Lexicographic.{slice_cmp, nat_list_cmp_total}
use Rattle.ovs_data.specs.declared.atom.Atom.{Atom}
use Rattle.ovs_data.specs.declared.atom.Atom.TheVariants.{Integer, Boolean, String, Uuid}
use Rattle.ovs_data.specs.declared.atom.AtomKind.{AtomKind}
use Rattle.ovs_data.specs.declared.atom.AtomKind.TheVariants as kinds

abbrev pub kind_of : Atom → AtomKind
kind_of (Integer z) = kinds.Integer
kind_of (Boolean b) = kinds.Boolean
kind_of (String s) = kinds.String
kind_of (Uuid id) = kinds.Uuid

-- 0, false, the empty text and the id of zeros
abbrev pub default_atom : AtomKind → Atom
default_atom kinds.Integer = Integer (pos 0)
default_atom kinds.Boolean = Boolean false
default_atom kinds.String = String []
default_atom kinds.Uuid = Uuid 0

-- within the bounds of its kind: an integer of 64 bits, an id of 128
abbrev pub IsBounded : Atom → Type 0
IsBounded (Integer (pos n)) = n < 2 ^ 63
IsBounded (Integer (negsuc n)) = n < 2 ^ 63
IsBounded (Boolean b) = Unit {0}
IsBounded (String s) = Unit {0}
IsBounded (Uuid id) = id < 2 ^ 128

-- ---- the order: integers by value, false before true, texts by bytes, ids by number

abbrev pub rank : Atom → ℕ
rank (Integer z) = 0
rank (Boolean b) = 1
rank (String s) = 2
rank (Uuid id) = 3

abbrev pub integer_of : Atom → ℤ
integer_of (Integer z) = z
integer_of (Boolean false) = pos 0
integer_of (Boolean true) = pos 1
integer_of (String s) = pos 0
integer_of (Uuid id) = pos id

abbrev pub bytes_of : Atom → List ℕ
bytes_of (Integer z) = []
bytes_of (Boolean b) = []
bytes_of (String s) = s
bytes_of (Uuid id) = []

abbrev pub atom_cmp : Atom → Atom → Ordering
atom_cmp = then_cmp (on rank nat_cmp) (then_cmp (on integer_of int_cmp) (on bytes_of (slice_cmp nat_cmp)))

pub atom_total : IsTotalOrder atom_cmp
atom_total = then_total (on_total rank nat_cmp_total) (then_total (on_total integer_of int_cmp_total) (on_total bytes_of nat_list_cmp_total))

-- whether two atoms are equal
abbrev pub atom_eq : Atom → Atom → Bool
atom_eq x y = is_eq (atom_cmp x y)
