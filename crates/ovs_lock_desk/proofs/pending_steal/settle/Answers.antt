use Rattle.std.proofs.Common.{◌≡◌, ℕ, zero, suc, ◌<◌, List, [], ◌∷◌, ◌++◌, ◌∙◌, length, take, drop, get_or, set, refl, ap, arith, add-one}
use Rattle.std.specs.Prelude.{map}
use Rattle.ovs_lock_desk.specs.PendingSteal.{settled, settled_one}
use Rattle.ovs_lock_desk.proofs.pending_steal.settle.Goals as goal

-- one more element is written
step : {X : Type 0} (f : X → X) (xs : List X) (i : ℕ) (d : X) → i < length xs
    → set (map f (take i xs) ++ drop i xs) i (f (get_or (map f (take i xs) ++ drop i xs) i d)) ≡ map f (take (suc i) xs) ++ drop (suc i) xs
step f [] i d h = absurd (omega arith)
step f (x ∷ xs) zero d h = refl
step f (x ∷ xs) (suc i) d h = ap (λ ys. f x ∷ ys) (step f xs i d (omega arith))

pub loop-one-preserved : goal.loop-one-preserved
loop-one-preserved c =
    let i = c.loop-one.one-index in
    let xs = c.args.late.now in
    let so_far : c.loop-one.late ≡ settled c.args.outcome (take i xs) ++ drop i xs = c.loop-one.invariant in
    rw add-one (
    ap (set c.loop-one.late i) c.settle.ensures.value
    ∙ ap (λ ys. set ys i (settled_one c.args.outcome (get_or ys i c.one-item.result))) so_far
    ∙ step (settled_one c.args.outcome) xs i c.one-item.result (omega arith))
