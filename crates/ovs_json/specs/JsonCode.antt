-- A code for JSON data, by which a struct may be seen as such data: data of one code are equal.
use Rattle.std.specs.Prelude.{◌≡◌, ℕ, zero, suc, refl}
use Rattle.std.specs.Coded.{Coded, coded_ℕ, coded_ℤ, coded_bool, coded_list}
use Rattle.std.proofs.Common.{ap, subst}
use base.Stored.{Gv, gnil, gnum, gcons, num, coded_float}
use Rattle.serde_json.specs.Data.{Num, unsigned, negative, float, Data, null, boolean, number, string, array, object, Items, no_items, item, Members, no_members, member}

abbrev head : Gv → Gv
head gnil = gnil
head (gnum n) = gnil
head (gcons a b) = a

abbrev tail : Gv → Gv
tail gnil = gnil
tail (gnum n) = gnil
tail (gcons a b) = b

abbrev kind : Gv → ℕ
kind g = num (head g)

-- two numbers that differ
abbrev Differ : ℕ → ℕ → Type 0
Differ zero zero = ⊥
Differ zero (suc n) = Unit {0}
Differ (suc m) zero = Unit {0}
Differ (suc m) (suc n) = Differ m n

not_itself : (n : ℕ) → Differ n n → ⊥
not_itself zero differ = differ
not_itself (suc n) differ = not_itself n differ

apart : {A : Type 0} (m n : ℕ) → Differ m n → m ≡ n → A
apart m n differ same = absurd (not_itself n (subst (λ k. Differ k n) same differ))

abbrev number_kind : Num → ℕ
number_kind (unsigned n) = 0
number_kind (negative z) = 1
number_kind (float x) = 2

abbrev number_code : Num → Gv
number_code (unsigned n) = gcons (gnum 0) (gnum n)
number_code (negative z) = gcons (gnum 1) (coded_ℤ.code z)
number_code (float x) = gcons (gnum 2) (coded_float.code x)

one_number : (x y : Num) → number_code x ≡ number_code y → x ≡ y
one_number (unsigned m) (unsigned n) e = ap unsigned (coded_ℕ.inj m n (ap tail e))
one_number (negative m) (negative n) e = ap negative (coded_ℤ.inj m n (ap tail e))
one_number (float x) (float y) e = ap float (coded_float.inj x y (ap tail e))
one_number x y e = apart (number_kind x) (number_kind y) tt (ap kind e)

abbrev mutual
  pub code : Data → Gv
  code null = gcons (gnum 0) gnil
  code (boolean b) = gcons (gnum 1) (coded_bool.code b)
  code (number n) = gcons (gnum 2) (number_code n)
  code (string s) = gcons (gnum 3) ((coded_list coded_ℕ).code s)
  code (array ds) = gcons (gnum 4) (items_code ds)
  code (object ms) = gcons (gnum 5) (members_code ms)

  items_code : Items → Gv
  items_code no_items = gcons (gnum 0) gnil
  items_code (item d ds) = gcons (gnum 1) (gcons (code d) (items_code ds))

  members_code : Members → Gv
  members_code no_members = gcons (gnum 0) gnil
  members_code (member k d ms) = gcons (gnum 1)
      (gcons ((coded_list coded_ℕ).code k) (gcons (code d) (members_code ms)))

abbrev data_kind : Data → ℕ
data_kind null = 0
data_kind (boolean b) = 1
data_kind (number n) = 2
data_kind (string s) = 3
data_kind (array ds) = 4
data_kind (object ms) = 5

abbrev items_kind : Items → ℕ
items_kind no_items = 0
items_kind (item d ds) = 1

abbrev members_kind : Members → ℕ
members_kind no_members = 0
members_kind (member k d ms) = 1

mutual
  pub one_data : (x y : Data) → code x ≡ code y → x ≡ y
  one_data null null e = refl
  one_data (boolean a) (boolean b) e = ap boolean (coded_bool.inj a b (ap tail e))
  one_data (number m) (number n) e = ap number (one_number m n (ap tail e))
  one_data (string s) (string t) e = ap string ((coded_list coded_ℕ).inj s t (ap tail e))
  one_data (array ds) (array es) e = ap array (one_items ds es (ap tail e))
  one_data (object ms) (object ns) e = ap object (one_members ms ns (ap tail e))
  one_data x y e = apart (data_kind x) (data_kind y) tt (ap kind e)

  one_items : (x y : Items) → items_code x ≡ items_code y → x ≡ y
  one_items no_items no_items e = refl
  one_items (item d ds) (item f fs) e = λ i. item (one_data d f (ap (λ g. head (tail g)) e) i)
      (one_items ds fs (ap (λ g. tail (tail g)) e) i)
  one_items x y e = apart (items_kind x) (items_kind y) tt (ap kind e)

  one_members : (x y : Members) → members_code x ≡ members_code y → x ≡ y
  one_members no_members no_members e = refl
  one_members (member k d ms) (member l f ns) e =
      λ i. member ((coded_list coded_ℕ).inj k l (ap (λ g. head (tail g)) e) i)
      (one_data d f (ap (λ g. head (tail (tail g))) e) i)
      (one_members ms ns (ap (λ g. tail (tail (tail g))) e) i)
  one_members x y e = apart (members_kind x) (members_kind y) tt (ap kind e)

abbrev pub json_code : Coded Data
json_code = record { code = code; inj = one_data }
