use Rattle.std.proofs.Common.{◌≡◌, ℕ, zero, suc, ◌<◌, List, [], ◌∷◌, ◌++◌, ◌∙◌, length, take, drop, get_or, set, refl, ap, arith, add-one}
use Rattle.std.specs.Prelude.{map}
use Rattle.serde_json.specs.Data.{Data}
use Rattle.serde_json.specs.View.{view}
use Rattle.serde_json.specs.declared.value.Value.{Value}
use Rattle.ovs_desk.specs.Asserts.{rewritten}
use Rattle.ovs_desk.proofs.asserts.rewrite_all.Goals as goal

-- one more element is written
step : {X : Type 0} (f : X → X) (xs : List X) (i : ℕ) (d : X) → i < length xs
    → set (map f (take i xs) ++ drop i xs) i (f (get_or (map f (take i xs) ++ drop i xs) i d)) ≡ map f (take (suc i) xs) ++ drop (suc i) xs
step f [] i d h = absurd (omega arith)
step f (x ∷ xs) zero d h = refl
step f (x ∷ xs) (suc i) d h = ap (λ ys. f x ∷ ys) (step f xs i d (omega arith))

seen_set : {X Y : Type 0} (g : X → Y) (xs : List X) (i : ℕ) (x : X) → map g (set xs i x) ≡ set (map g xs) i (g x)
seen_set g [] i x = refl
seen_set g (y ∷ xs) zero x = refl
seen_set g (y ∷ xs) (suc i) x = ap (λ ys. g y ∷ ys) (seen_set g xs i x)

seen_get : {X Y : Type 0} (g : X → Y) (xs : List X) (i : ℕ) (d : X) → g (get_or xs i d) ≡ get_or (map g xs) i (g d)
seen_get g [] i d = refl
seen_get g (y ∷ xs) zero d = refl
seen_get g (y ∷ xs) (suc i) d = seen_get g xs i d

seen_len : {X Y : Type 0} (g : X → Y) (xs : List X) → length (map g xs) ≡ length xs
seen_len g [] = refl
seen_len g (y ∷ xs) = ap suc (seen_len g xs)

pub loop-operation-preserved : goal.loop-operation-preserved
loop-operation-preserved c =
    let i = c.loop-operation.operation-index in
    let ops = c.loop-operation.operations in
    let xs = map view c.args.operations.now in
    let f = rewritten c.args.locks.now.locks c.args.session in
    let so_far : map view ops ≡ map f (take i xs) ++ drop i xs = c.loop-operation.invariant in
    let taken : c.replace-taken.result ≡ get_or ops i c.operation-item.result = c.replace-taken.ensures.value in
    let made : view c.in_ok-operation.field-0 ≡ f (get_or (map view ops) i (view c.operation-item.result)) =
    c.in_ok-operation.ensures.value ∙ ap (λ (v : Value). f (view v)) taken ∙ ap f (seen_get view ops i c.operation-item.result) in
    let long : length xs ≡ length c.args.operations.now = seen_len view c.args.operations.now in
    rw add-one (
    seen_set view ops i c.in_ok-operation.field-0
    ∙ ap (set (map view ops) i) made
    ∙ ap (λ (ys : List Data). set ys i (f (get_or ys i (view c.operation-item.result)))) so_far
    ∙ step f xs i (view c.operation-item.result) (omega (arith, long)))
