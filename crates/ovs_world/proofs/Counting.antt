-- How many links a set can hold that are all in another.
use Rattle.std.specs.FinMap.{get, len}
use Rattle.std.specs.Option.{option_or}
use Rattle.std.proofs.Common.{◌≡◌, ◌≤◌, ℕ, Option, Some, None, refl, sym, ◌∙◌, ap, subst}
use Rattle.ovs_links.specs.Join.{join}
use Rattle.ovs_links.specs.Sets.{Holds}
use Rattle.ovs_links.specs.declared.link.Link.{Link}
use Rattle.ovs_links.proofs.JoinLemmas.{Links, IsKeyed, at_prev, get-join, len_join_right, same_links}

pub few_held : (m n : Links) → IsKeyed m → IsKeyed n → ((l : Link) → Holds m l → Holds n l) → len m ≤ len n
few_held m n first second within = subst (λ (x : Links). len m ≤ len x) (same_links (join n m) n (λ q. at q (get n q) refl (get m q) refl)) (len_join_right n m)
  where
    at : (q : ℕ) (x : Option Link) → get n q ≡ x → (y : Option Link) → get m q ≡ y → get (join n m) q ≡ get n q
    at q (Some l) e y f = get-join n m q ∙ ap (λ (o : Option Link). option_or o (get m q)) e ∙ sym e
    at q None e None f = get-join n m q ∙ ap (λ (o : Option Link). option_or o (get m q)) e ∙ f ∙ sym e
    at q None e (Some l) f =
        let there : get n l.prev ≡ Some l = within l (at_prev m q l first f) in
        let here : None ≡ Some l = sym e ∙ ap (λ (k : ℕ). get n k) (sym (first q l f)) ∙ there in
        absurd cc
