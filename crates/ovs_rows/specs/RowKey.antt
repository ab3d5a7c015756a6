-- Places of rows: a table, by its number, and a row of it, by its id.
use Rattle.std.specs.Prelude.{◌≡◌, T}
use Rattle.std.specs.declared.cmp.Ordering.{Ordering}
use Rattle.std.specs.declared.cmp.Ordering.TheVariants.{Less, Equal, Greater}
use Rattle.std.specs.Ordering.{nat_cmp, ordering_then, is_eq}
use Rattle.std.specs.Cmp.{IsTotalOrder, then_total, on_total, nat_cmp_total}
use Rattle.std.specs.FinMap.{IsAntisymmetric, nat_cmp-IsAntisymmetric}
use Rattle.ovs_rows.specs.declared.row_key.RowKey.{RowKey}
use mathlib.Core.Path.{refl, sym, subst}

-- by table, and then by id
abbrev pub place_cmp : RowKey → RowKey → Ordering
place_cmp a b = ordering_then (nat_cmp a.table b.table) (nat_cmp a.id b.id)

pub place_total : IsTotalOrder place_cmp
place_total = then_total (on_total (λ p. p.table) nat_cmp_total) (on_total (λ p. p.id) nat_cmp_total)

-- places that tie are equal
pub place_exact : IsAntisymmetric place_cmp
place_exact a b is =
    elim (nat_cmp a.table b.table) as (λ o. nat_cmp a.table b.table ≡ o → ordering_then o (nat_cmp a.id b.id) ≡ Equal → a ≡ b) [
      | Less ↦ λ t e. absurd (subst (λ r. T (is_eq r)) (sym e) tt)
      | Equal ↦ λ t e i. record { table = nat_cmp-IsAntisymmetric a.table b.table t i; id = nat_cmp-IsAntisymmetric a.id b.id e i }
      | Greater ↦ λ t e. absurd (subst (λ r. T (is_eq r)) (sym e) tt)
    ] refl is
