-- Two nodes that have run.
use Rattle.std.proofs.Common.{◌≡◌, ◌↔◌, ◌∙◌, ℕ, List, ap, refl, subst, sym}
use Rattle.ovs_types.specs.declared.schema.Table.{Table}
use Rattle.ovs_rows.specs.Row.{no_rows}
use Rattle.ovs_node.specs.Ledger.{WasSent}
use Rattle.ovs_links.specs.Chains.{rows_after}
use Rattle.ovs_links.specs.Epochs.{IsLatestChain}
use Rattle.ovs_links.specs.Sets.{Holds}
use Rattle.ovs_links.specs.Store.{Stored, rows_of, tables_of}
use Rattle.ovs_links.specs.declared.answer.Settled.{Settled}
use Rattle.ovs_links.specs.declared.link.Link.{Link}
use Rattle.ovs_links.proofs.ChainLemmas.{holds_by_prev}
use Rattle.ovs_links.proofs.OpeningLemmas.{latest_unique}
use Rattle.ovs_node_threads.specs.Reporting.{IsReportOf}

module _ (sent others : List (List Link)) (s t : Stored) (settled also : Settled) where
  -- that hold the same links have folded the same chain, and have the same rows
  pub same_rows : (forks short dropped forks-2 short-2 dropped-2 : ℕ)
      → IsReportOf sent s settled forks short dropped → IsReportOf others t also forks-2 short-2 dropped-2
      → tables_of s ≡ tables_of t → ((l : Link) → Holds s.links l ↔ Holds t.links l)
      → (s.folded ≡ t.folded) × (rows_of s ≡ rows_of t)
  same_rows forks short dropped forks-2 short-2 dropped-2 one other tables both =
      let latest : IsLatestChain (tables_of s) (Holds t.links) t.folded =
      subst (λ (ts : List Table). IsLatestChain ts (Holds t.links) t.folded) (sym tables) other.chain in
      let same = latest_unique (Holds s.links) (Holds t.links) (holds_by_prev s.links) (tables_of s) s.folded t.folded (λ l. (both l).0) (λ l. (both l).1) one.chain latest in
      (same, ap (rows_after (tables_of s) no_rows) same ∙ ap (λ (ts : List Table). rows_after ts no_rows t.folded) tables)

  -- to which the same links were sent, of which neither refused or dropped any, hold the same links
  pub same_held : IsReportOf sent s settled 0 0 0 → IsReportOf others t also 0 0 0 → ((l : Link) → WasSent sent l ↔ WasSent others l)
      → (l : Link) → Holds s.links l ↔ Holds t.links l
  same_held one other both l = (
    (λ held. other.whole refl refl l ((both l).0 (one.held l held)) (λ old. old.0 refl)),
    (λ held. one.whole refl refl l ((both l).1 (other.held l held)) (λ old. old.0 refl)),
  )
