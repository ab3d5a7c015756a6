-- One session more that has ended.
use Rattle.std.proofs.Common.{◌≡◌, ◌∙◌, ap, subst, List, [], ◌∷◌, ◌++◌, Option, Some, option_map, option_to_list, map}
use Rattle.std.specs.Prelude.{IfSome}
use Rattle.std.specs.List.{AllByRecursion}
use Rattle.std.proofs.lemmas.List.{map-append}

pub one_more : {A B : Type 0} (f : A → B) (xs : List A) (x : A) → map f (xs ++ x ∷ []) ≡ map f xs ++ f x ∷ []
one_more f xs x = map-append f xs (x ∷ [])

pub all_more : {A : Type 0} (P : A → Type 0) (xs : List A) (x : A) → AllByRecursion P xs → P x → AllByRecursion P (xs ++ x ∷ [])
all_more P [] x all one = (one, tt)
all_more P (y ∷ xs) x all one = (all.0, all_more P xs x all.1 one)

-- the connection that is back is that of the session that left
pub is_back : {S A : Type 0} (f : S → A) (out : Option A) (found : Option S) (slot : S) → out ≡ option_map f found → found ≡ Some slot
    → option_to_list out ≡ f slot ∷ []
is_back f out found slot agree is = ap option_to_list (agree ∙ ap (λ o. option_map f o) is)

pub found_holds : {S : Type 0} (P : S → Type 0) (found : Option S) (slot : S) → found ≡ Some slot → IfSome found P → P slot
found_holds P found slot is holds = subst (λ o. IfSome o P) is holds
