-- Moves of a delivery, one after another.
use Rattle.std.proofs.Common.{◌≡◌, ℕ, ◌+◌, List, [], ◌∷◌, ◌++◌, refl, subst, arith}
use Rattle.ovs_links.specs.Store.{Stored}
use Rattle.ovs_world.specs.Deliveries.{Scene, Move, Tell, Feed, Choke, Hear, Does, DoesAll, fed_by, Leads}

does_append : (source : Stored) (us vs : List Move) (a b c : Scene) → DoesAll source us a b → DoesAll source vs b c → DoesAll source (us ++ vs) a c
does_append source [] vs a b c d e = subst (λ (x : Scene). DoesAll source vs x c) d e
does_append source (u ∷ us) vs a b c d e = (d.0, d.1, does_append source us vs d.0 b c d.2 e)

fed_append : (us vs : List Move) → fed_by (us ++ vs) ≡ fed_by us + fed_by vs
fed_append [] vs = omega arith
fed_append (Tell ∷ us) vs = fed_append us vs
fed_append (Feed n ∷ us) vs = let t = fed_append us vs in omega (arith, t)
fed_append (Choke n ∷ us) vs = let t = fed_append us vs in omega (arith, t)
fed_append (Hear ls ∷ us) vs = fed_append us vs

pub leads_none : (source : Stored) (a : Scene) → Leads source 0 a a
leads_none source a = ([], refl, refl)

pub leads_one : (source : Stored) (v : Move) (a b : Scene) (n : ℕ) → fed_by (v ∷ []) ≡ n → Does source v a b → Leads source n a b
leads_one source v a b n fed does = (v ∷ [], (b, does, refl), fed)

pub leads_on : (source : Stored) (m n : ℕ) (a b c : Scene) → Leads source m a b → Leads source n b c → Leads source (m + n) a c
leads_on source m n a b c d e =
    (d.0 ++ e.0, does_append source d.0 e.0 a b c d.1 e.1, (let t = fed_append d.0 e.0 in omega (arith, t, d.2, e.2)))
