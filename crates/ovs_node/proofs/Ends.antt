-- Ends of a feed to which nothing was sent.
use Rattle.std.specs.Prelude.{◌≡◌, ◌++◌, ℕ, zero, suc, List, [], ◌∷◌, refl}
use Rattle.std.specs.List.{AllByRecursion}
use Rattle.ovs_node.specs.Ledger.{fresh_ends}
use Rattle.ovs_links.specs.declared.link.Link.{Link}

abbrev pub IsUnsent : ℕ × List Link → Type 0
IsUnsent e = e.1 ≡ []

all_and : (es : List (ℕ × List Link)) → (e : ℕ × List Link) → AllByRecursion IsUnsent es → IsUnsent e → AllByRecursion IsUnsent (es ++ e ∷ [])
all_and [] e all one = (one, tt)
all_and (x ∷ es) e all one = (all.0, all_and es e all.1 one)

-- the ends of a new feed are such
pub fresh_ends_are_unsent : (n : ℕ) → AllByRecursion IsUnsent (fresh_ends n)
fresh_ends_are_unsent zero = tt
fresh_ends_are_unsent (suc n) = all_and (fresh_ends n) (n, []) (fresh_ends_are_unsent n) refl
