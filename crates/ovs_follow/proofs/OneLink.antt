-- The one link of a list.
use Rattle.std.proofs.Common.{◌≡◌, ◌≤◌, List, [], ◌∷◌, ◌++◌, length, ap, ◌∙◌, subst, arith, length-append}
use Rattle.ovs_links.specs.Sets.{AllOf}
use Rattle.ovs_links.specs.declared.link.Link.{Link}

pub only_one : (P : Link → Type 0) (ls rest : List Link) (l : Link) → length ls ≤ 1 → ls ≡ rest ++ l ∷ [] → AllOf P ls → P l × (ls ≡ l ∷ [])
only_one P ls [] l one is all = ((subst (λ (x : List Link). AllOf P x) is all).0, is)
only_one P ls (r ∷ rest) l one is all = absurd (let n = ap length is ∙ length-append (r ∷ rest) (l ∷ []) in omega arith)
