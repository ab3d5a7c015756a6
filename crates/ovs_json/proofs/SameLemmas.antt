-- Values are the same exactly where the test says so.
use Rattle.std.proofs.Common.{◌≡◌, Bool, true, false, refl, ap, subst}
use Rattle.std.proofs.lemmas.Bool.{eqb-true, eq-eqb, and_parts, and_from}
use Rattle.std.proofs.lemmas.Bool.Decides.{same_from_decides}
use Rattle.std.specs.Bool.{Decides}
use base.Stored.{Gv, gnil, gnum, gcons, Coded}
use Rattle.ovs_json.specs.Same.{same_code, is_same}

alike : (x y : Gv) → same_code x y ≡ true → x ≡ y
alike gnil gnil e = refl
alike gnil (gnum n) e = absurd (let f : false ≡ true = e in cc)
alike gnil (gcons c d) e = absurd (let f : false ≡ true = e in cc)
alike (gnum m) gnil e = absurd (let f : false ≡ true = e in cc)
alike (gnum m) (gnum n) e = ap gnum (eqb-true m n e)
alike (gnum m) (gcons c d) e = absurd (let f : false ≡ true = e in cc)
alike (gcons a b) gnil e = absurd (let f : false ≡ true = e in cc)
alike (gcons a b) (gnum n) e = absurd (let f : false ≡ true = e in cc)
alike (gcons a b) (gcons c d) e =
    let parts = and_parts (same_code a c) (same_code b d) e in
    λ i. gcons (alike a c parts.0 i) (alike b d parts.1 i)

itself : (x : Gv) → same_code x x ≡ true
itself gnil = refl
itself (gnum n) = eq-eqb n n refl
itself (gcons a b) = and_from (same_code a a) (same_code b b) (itself a) (itself b)

pub same_alike : {A : Type 0} (coded : Coded A) (x y : A) → is_same coded x y ≡ true → x ≡ y
same_alike coded x y e = coded.inj x y (alike (coded.code x) (coded.code y) e)

pub same_itself : {A : Type 0} (coded : Coded A) (x : A) → is_same coded x x ≡ true
same_itself coded x = itself (coded.code x)

pub same_decides : {A : Type 0} (coded : Coded A) (x y : A) → Decides (is_same coded x y) (x ≡ y)
same_decides coded x y = (same_alike coded x y, λ e. subst (λ z. is_same coded x z ≡ true) e (same_itself coded x))

-- any other test that says so gives the same answer
pub same_answer : {A : Type 0} (coded : Coded A) (x y : A) (answer : Bool) → Decides answer (x ≡ y) → answer ≡ is_same coded x y
same_answer coded x y answer decides = same_from_decides answer (is_same coded x y) decides (same_decides coded x y)

pub not_same : {A : Type 0} (coded : Coded A) (x y : A) → ¬ (x ≡ y) → is_same coded x y ≡ false
not_same coded x y n = cases (is_same coded x y) refl
  where
    cases : (b : Bool) → is_same coded x y ≡ b → is_same coded x y ≡ false
    cases true e = absurd (n (same_alike coded x y e))
    cases false e = e
