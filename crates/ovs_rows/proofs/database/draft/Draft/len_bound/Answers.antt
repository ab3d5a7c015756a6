use Rattle.std.proofs.Common.{◌≡◌, ◌+◌, ◌≤◌, length, ap, subst, ◌∙◌, arith}
use Rattle.std.specs.FinMap.{entries, len}
use Rattle.ovs_rows.specs.Draft.{DraftValue, overlaid}
use Rattle.ovs_rows.proofs.Drafts.{len-overlaid}
use Rattle.ovs_rows.proofs.database.draft.Draft.len_bound.Goals as goal

pub returns : goal.returns
returns c =
    let rows = c.self.inside.base.now.rows in
    let over = c.self.inside.changed in
    let base : c.len.result ≡ length (entries rows) = c.len.ensures.len ∙ ap length (c.as_map.ensures.value ∙ ap entries c.rows.ensures.value) in
    let more : c.len-2.result ≡ length (entries over) = c.len-2.ensures.len ∙ ap length c.as_map-2.ensures.value in
    let most : len (overlaid rows over) ≤ c.len.result + c.len-2.result = omega (arith, len-overlaid rows over, base, more) in
    record { most = subst (λ (d : DraftValue). len d.rows ≤ c.len.result + c.len-2.result) c.self.view_is most }
