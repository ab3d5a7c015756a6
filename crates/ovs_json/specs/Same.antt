-- Whether two values are the same, of any type whose values have codes.
use Rattle.std.specs.Prelude.{◌==◌, Bool, true, false, ◌&&◌}
use base.Stored.{Gv, gnil, gnum, gcons, Coded}

abbrev pub same_code : Gv → Gv → Bool
same_code gnil gnil = true
same_code gnil (gnum n) = false
same_code gnil (gcons c d) = false
same_code (gnum m) gnil = false
same_code (gnum m) (gnum n) = m == n
same_code (gnum m) (gcons c d) = false
same_code (gcons a b) gnil = false
same_code (gcons a b) (gnum n) = false
same_code (gcons a b) (gcons c d) = same_code a c && same_code b d

abbrev pub is_same : {A : Type 0} → Coded A → A → A → Bool
is_same coded x y = same_code (coded.code x) (coded.code y)
