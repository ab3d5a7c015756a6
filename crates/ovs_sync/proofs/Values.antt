-- What the items from one end hold.
use Rattle.std.proofs.Common.{◌≡◌, ◌≢◌, ℕ, ◌==◌, true, false, cond, List, [], ◌∷◌, ◌++◌, refl, sym, ap, ◌∙◌, ⊎_elim}
use Rattle.std.proofs.lemmas.Bool.Decides.{eqb_tells}
use Rattle.ovs_sync.specs.declared.feed.item.Item.{Item}
use Rattle.ovs_sync.specs.FeedRule.{values_of}

module _ {T : Type 0} where
  pub values_same : (p : ℕ) (m : Item T) (ms : List (Item T)) → m.from ≡ p → values_of p (m ∷ ms) ≡ m.value ∷ values_of p ms
  values_same p m ms e = ⊎_elim (λ (t : ((m.from == p) ≡ true) × (m.from ≡ p)). ap (λ b. cond b (m.value ∷ values_of p ms) (values_of p ms)) t.0) (λ (t : ((m.from == p) ≡ false) × (m.from ≢ p)). absurd (t.1 e)) (eqb_tells m.from p)

  pub values_other : (p : ℕ) (m : Item T) (ms : List (Item T)) → m.from ≢ p → values_of p (m ∷ ms) ≡ values_of p ms
  values_other p m ms ne = ⊎_elim (λ (t : ((m.from == p) ≡ true) × (m.from ≡ p)). absurd (ne t.1)) (λ (t : ((m.from == p) ≡ false) × (m.from ≢ p)). ap (λ b. cond b (m.value ∷ values_of p ms) (values_of p ms)) t.0) (eqb_tells m.from p)

  pub values_append : (p : ℕ) (xs ys : List (Item T)) → values_of p (xs ++ ys) ≡ values_of p xs ++ values_of p ys
  values_append p [] ys = refl
  values_append p (m ∷ xs) ys = ⊎_elim
      (λ (t : ((m.from == p) ≡ true) × (m.from ≡ p)). values_same p m (xs ++ ys) t.1 ∙ ap (λ l. m.value ∷ l) (values_append p xs ys) ∙ ap (λ l. l ++ values_of p ys) (sym (values_same p m xs t.1)))
      (λ (t : ((m.from == p) ≡ false) × (m.from ≢ p)). values_other p m (xs ++ ys) t.1 ∙ values_append p xs ys ∙ ap (λ l. l ++ values_of p ys) (sym (values_other p m xs t.1)))
      (eqb_tells m.from p)
