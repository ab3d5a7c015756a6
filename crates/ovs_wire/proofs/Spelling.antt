-- JSON spells one message at most.
use Rattle.std.proofs.Common.{◌≡◌, ℕ, List, Option, Some, None, codes, ap, sym, ◌∙◌, subst}
use Rattle.serde_json.specs.Data.{Data, string, array}
use Rattle.serde_json.specs.Find.{get}
use Rattle.serde_json.specs.View.{items_of}
use Rattle.ovs_wire.specs.declared.message.Message.{Message}
use Rattle.ovs_wire.specs.declared.message.Message.TheVariants.{Request, Reply, Notice}
use Rattle.ovs_wire.specs.Message.{Calls, Spells, Says}
use Rattle.ovs_wire.specs.Reading.{list_of}
use Rattle.ovs_wire.proofs.Lists.{list_again}

one_name : (o : Option Data) (a b : List ℕ) → o ≡ Some (string a) → o ≡ Some (string b) → a ≡ b
one_name o a b e f = let same : Some (string a) ≡ Some (string b) = sym e ∙ f in cc (same)

one_list : (o : Option Data) (p q : List Data) → o ≡ Some (array (items_of p)) → o ≡ Some (array (items_of q))
    → p ≡ q
one_list o p q e f =
    let same : Some (array (items_of p)) ≡ Some (array (items_of q)) = sym e ∙ f in
    let items : items_of p ≡ items_of q = cc (same) in
    sym (list_again p) ∙ ap list_of items ∙ list_again q

one_call : (d : Data) (a b : List ℕ) (p q : List Data) → Calls d a p → Calls d b q → (a ≡ b) × (p ≡ q)
one_call d a b p q x y = (
  one_name (get (codes "method") d) a b x.0 y.0,
  one_list (get (codes "params") d) p q
      x.1 y.1,
)

absent : {A : Type 0} (o : Option Data) (a : List ℕ) → o ≡ Some (string a) → o ≡ None → A
absent o a e f = absurd (cc (e, f))

pub one_spelling : (d : Data) (m n : Message) → Spells d m → Spells d n → m ≡ n
one_spelling d (Request a p i) (Request b q j) x y = let call =
    one_call d a b p q x.0 y.0 in cc (call.0, call.1, x.1, y.1)
one_spelling d (Request a p i) (Notice b q) x y = absurd (x.2 (sym x.1 ∙ y.1))
one_spelling d (Request a p i) (Reply r e j) x y = absent (get (codes "method") d) a x.0.0 y.0
one_spelling d (Notice a p) (Request b q j) x y = absurd (y.2 (sym y.1 ∙ x.1))
one_spelling d (Notice a p) (Notice b q) x y = let call = one_call d a b p q x.0 y.0 in cc (call.0, call.1)
one_spelling d (Notice a p) (Reply r e j) x y = absent (get (codes "method") d) a x.0.0 y.0
one_spelling d (Reply r e i) (Request b q j) x y = absent (get (codes "method") d) b y.0.0 x.0
one_spelling d (Reply r e i) (Notice b q) x y = absent (get (codes "method") d) b y.0.0 x.0
one_spelling d (Reply r e i) (Reply s f j) x y = cc (x.2, y.2, x.3, y.3, x.4, y.4)

pub one_message : (bytes : List ℕ) (m n : Message) → Says bytes m → Says bytes n → m ≡ n
one_message bytes m n x y =
    let same : x.0 ≡ y.0 = cc (x.1.1, y.1.1) in
    one_spelling y.0 m n (subst (λ (d : Data). Spells d m) same x.2) y.2
