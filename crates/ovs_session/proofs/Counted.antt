-- Counts, one piece after another.
use Rattle.std.proofs.Common.{◌≡◌, ℕ, ◌+◌, min, arith, List, ◌++◌, length, length-append, ap, sym, ◌∙◌}
use Rattle.ovs_session.specs.Counting.{last, count_on, IsAfter}

on_from : (a b c k l m : ℕ) → min (b + 0) m ≡ min (a + k) m → min (c + 0) m ≡ min (b + l) m → min (c + 0) m ≡ min (a + (k + l)) m
on_from a b c k l m p q = omega arith

on_twice : (a k m : ℕ) → min (min (a + k) m + 0) m ≡ min (a + k) m
on_twice a k m = omega arith

-- so many, and then so many more
pub after_more : (a b c k l : ℕ) → IsAfter b a k → IsAfter c b l → IsAfter c a (k + l)
after_more a b c k l p q = on_from a b c k l last p q

-- the lengths of two lists, one after the other
pub after_both : {A : Type 0} (a b c : ℕ) (xs ys : List A) → IsAfter b a (length xs) → IsAfter c b (length ys) → IsAfter c a (length (xs ++ ys))
after_both a b c xs ys p q = after_more a b c (length xs) (length ys) p q ∙ ap (λ n. count_on a n) (sym (length-append xs ys))

-- what was counted is counted
pub after_counting : (a k : ℕ) → IsAfter (count_on a k) a k
after_counting a k = on_twice a k last
