-- Lists of entries whose keys ascend, each key once.
use Rattle.std.specs.Prelude.{◌≡◌, ◌==◌, List, [], ◌∷◌, Bool, true, ◌&&◌, Option, Some, None, if◌then◌else◌, length}
use Rattle.std.specs.declared.cmp.Ordering.{Ordering}
use Rattle.std.specs.declared.cmp.Ordering.TheVariants.{Less}
use Rattle.std.specs.Ordering.{match_ordering, is_lt}

module _ {K E : Type 0} (order : K → K → Ordering) (key : E → K) where
  -- the key comes before each entry of the list
  abbrev pub IsBefore : K → List E → Type 0
  IsBefore q [] = Unit {0}
  IsBefore q (x ∷ xs) = (order q (key x) ≡ Less) × IsBefore q xs

  abbrev pub IsAscending : List E → Type 0
  IsAscending [] = Unit {0}
  IsAscending (x ∷ xs) = IsBefore (key x) xs × IsAscending xs

module _ {E : Type 0} (order : E → E → Ordering) where
  -- whether each entry is before the next
  abbrev pub ascends : List E → Bool
  ascends [] = true
  ascends (x ∷ []) = true
  ascends (x ∷ y ∷ ys) = is_lt (order x y) && ascends (y ∷ ys)

  -- an entry put in its place among ascending ones; of two that tie the new one stays
  abbrev pub put_entry : E → List E → List E
  put_entry x [] = x ∷ []
  put_entry x (y ∷ ys) = match_ordering (order x y) (x ∷ y ∷ ys) (x ∷ ys) (y ∷ put_entry x ys)

  -- the entries of a list in ascending order, one of those that tie
  abbrev pub in_order : List E → List E
  in_order [] = []
  in_order (x ∷ xs) = put_entry x (in_order xs)

  -- the entries in ascending order, where no two tie: then there are as many of them
  abbrev pub distinct : List E → Option (List E)
  distinct xs = if length (in_order xs) == length xs then Some (in_order xs) else None
