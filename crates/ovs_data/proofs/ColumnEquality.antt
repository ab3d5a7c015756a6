-- What `==` says of two columns.
use Rattle.std.proofs.Common.{◌≡◌, Bool, ◌&&◌, Option, Some, None, refl, ap}
use Rattle.std.proofs.lemmas.Bool.Decides.{Decides-eqb, Decides-and}
use Rattle.std.specs.Bool.{Decides, beq}
use Rattle.std.specs.Cmp.{booleans_Decides}
use Rattle.std.specs.Option.{option_eq}
use Rattle.std.specs.Prelude.{nat_eq}
use denote.Enum.Bare.{sameb}
use Rattle.ovs_data.specs.contracts.atom.AtomKind.{the_type}
use Rattle.ovs_data.specs.declared.atom.AtomKind.{AtomKind}
use Rattle.ovs_data.specs.declared.atom.AtomKind.TheVariants.{Integer, Boolean, String, Uuid}
use Rattle.ovs_data.specs.declared.column.Column.{Column}

abbrev kind_eq : AtomKind → AtomKind → Bool
kind_eq = sameb the_type

kind_decides : (a b : AtomKind) → Decides (kind_eq a b) (a ≡ b)
kind_decides Integer Integer = (λ e. refl, λ e. refl)
kind_decides Integer Boolean = (λ e. absurd cc, λ e. absurd cc)
kind_decides Integer String = (λ e. absurd cc, λ e. absurd cc)
kind_decides Integer Uuid = (λ e. absurd cc, λ e. absurd cc)
kind_decides Boolean Integer = (λ e. absurd cc, λ e. absurd cc)
kind_decides Boolean Boolean = (λ e. refl, λ e. refl)
kind_decides Boolean String = (λ e. absurd cc, λ e. absurd cc)
kind_decides Boolean Uuid = (λ e. absurd cc, λ e. absurd cc)
kind_decides String Integer = (λ e. absurd cc, λ e. absurd cc)
kind_decides String Boolean = (λ e. absurd cc, λ e. absurd cc)
kind_decides String String = (λ e. refl, λ e. refl)
kind_decides String Uuid = (λ e. absurd cc, λ e. absurd cc)
kind_decides Uuid Integer = (λ e. absurd cc, λ e. absurd cc)
kind_decides Uuid Boolean = (λ e. absurd cc, λ e. absurd cc)
kind_decides Uuid String = (λ e. absurd cc, λ e. absurd cc)
kind_decides Uuid Uuid = (λ e. refl, λ e. refl)

option_decides : {X : Type 0} (E : X → X → Bool) → ((a b : X) → Decides (E a b) (a ≡ b)) → (o p : Option X) → Decides (option_eq E o p) (o ≡ p)
option_decides E decides None None = (λ e. refl, λ e. refl)
option_decides E decides None (Some b) = (λ e. absurd cc, λ e. absurd cc)
option_decides E decides (Some a) None = (λ e. absurd cc, λ e. absurd cc)
option_decides E decides (Some a) (Some b) = (λ e. ap Some ((decides a b).0 e), λ e. (decides a b).1 cc)

abbrev column_eq : Column → Column → Bool
column_eq a b = kind_eq a.key b.key && (option_eq kind_eq a.value b.value && (beq a.may_be_empty b.may_be_empty && option_eq nat_eq a.most b.most))

pub column_decides : (a b : Column) → Decides (column_eq a b) (a ≡ b)
column_decides a b =
    let parts = Decides-and _ _ (kind_decides a.key b.key) (Decides-and _ _ (option_decides kind_eq kind_decides a.value b.value)
    (Decides-and _ _ (booleans_Decides a.may_be_empty b.may_be_empty) (option_decides nat_eq Decides-eqb a.most b.most))) in (
      λ e. (let p = parts.0 e in λ i. record { key = p.0 i; value = p.1.0 i; may_be_empty = p.1.1.0 i; most = p.1.1.1 i }),
      λ e. parts.1 (ap (λ c. c.key) e, (ap (λ c. c.value) e, (ap (λ c. c.may_be_empty) e, ap (λ c. c.most) e))),
    )
