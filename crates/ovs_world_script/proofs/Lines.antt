-- Lines for nodes, one after another.
use Rattle.std.proofs.Common.{◌≡◌, ℕ, suc, ◌+◌, ◌<◌, ◌≤◌, List, [], ◌∷◌, ◌++◌, length, take, sym, ap, ap₂, ◌∙◌, append_assoc, append-nil, arith}
use Rattle.std.specs.Prelude.{get_or}
use Rattle.std.proofs.Math.Seq.{take-suc}
use Rattle.std.proofs.lemmas.List.{length-take-le, take_all}
use Rattle.ovs_links.specs.Store.{Stored}
use Rattle.ovs_world_script.specs.Closing.{node_line, node_lines}

node_lines-append : (n : ℕ) (ss ts : List Stored) → node_lines n (ss ++ ts) ≡ node_lines n ss ++ node_lines (n + length ss) ts
node_lines-append n [] ts = let same : n ≡ n + 0 = omega arith in ap (λ k. node_lines k ts) same
node_lines-append n (s ∷ ss) ts =
    let same : n + 1 + length ss ≡ n + length (s ∷ ss) = omega arith in
    ap (λ l. node_line n s ++ l) (node_lines-append (n + 1) ss ts ∙ ap (λ k. node_lines (n + 1) ss ++ node_lines k ts) same)
    ∙ sym (append_assoc (node_line n s) (node_lines (n + 1) ss) (node_lines (n + length (s ∷ ss)) ts))

-- one more node
pub one_more : (n : ℕ) (all : List Stored) (d : Stored) (text line : List ℕ) → n < length all → text ≡ node_lines 0 (take n all)
    → line ≡ node_line n (get_or all n d) → text ++ line ≡ node_lines 0 (take (n + 1) all)
one_more n all d text line less so_far next =
    let s = get_or all n d in
    let long : length (take n all) ≡ n = length-take-le n all (omega (arith, less)) in
    let place : 0 + length (take n all) ≡ n = omega (arith, long) in
    let after : suc n ≡ n + 1 = omega arith in
    let here : node_lines (0 + length (take n all)) (s ∷ []) ≡ node_line n s = append-nil _ ∙ ap (λ k. node_line k s) place in
    ap₂ (λ x y. x ++ y) so_far (next ∙ sym here) ∙ sym (node_lines-append 0 (take n all) (s ∷ [])) ∙ sym (ap (node_lines 0) (take-suc all n d less))
    ∙ ap (λ k. node_lines 0 (take k all)) after

-- there is none left
pub no_more : (n m : ℕ) (all : List Stored) → length all ≤ n → n ≤ m → node_lines 0 (take n all) ≡ node_lines 0 (take m all)
no_more n m all end less = ap (node_lines 0) (take_all n all end ∙ sym (take_all m all (omega (arith, end, less))))
