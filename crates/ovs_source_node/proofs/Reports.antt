-- What comes of a source whose node has one end of its feed.
use Rattle.std.proofs.Common.{◌≡◌, ℕ, zero, suc, List, [], ◌∷◌, length, refl, sym, subst, arith}
use Rattle.std.proofs.Math.Logic.{∥∥₁_map}
use Rattle.ovs_types.specs.declared.schema.Table.{Table}
use Rattle.ovs_node_threads.specs.Reporting.{AreSent, IsReport, IsReportOf}
use Rattle.ovs_sync.specs.Feed.{FeedValue, IsDrained}
use Rattle.ovs_node.specs.Ledger.{WasSent}
use Rattle.ovs_links.specs.Epochs.{epochs_of, links_in}
use Rattle.ovs_links.specs.Sets.{Among}
use Rattle.ovs_links.specs.Store.{Stored, tables_of}
use Rattle.ovs_links.specs.declared.answer.Settled.{Settled}
use Rattle.ovs_links.specs.declared.link.Link.{Link}
use Rattle.ovs_links.proofs.EpochLemmas.{Among-left}
use Rattle.ovs_source.specs.SourceDesk.{AreFirst}
use Rattle.ovs_source_node.specs.Reporting.{IsOwnReport}

one_list : (sent : List (List Link)) → length sent ≡ 1 → (ls : List Link) × (sent ≡ ls ∷ [])
one_list [] e = absurd (omega arith)
one_list (ls ∷ []) e = (ls, refl)
one_list (ls ∷ ms ∷ sent) e = absurd (omega arith)

sent_by_one : (ls : List Link) (l : Link) → WasSent (ls ∷ []) l → Among ls l
sent_by_one ls l (zero, at, a) = a
sent_by_one ls l (suc k, at, a) = absurd (omega arith)

module _ (tables : List Table) (gives : List Link → Type 0) (gives_first : (ls : List Link) → gives ls → AreFirst tables ls) (store : Stored) (same : tables_of store ≡ tables)
    (settled : Settled) (forks short dropped : ℕ) (feed : FeedValue Link) where
  of_one : (ls : List Link) → feed.returned ≡ ls ∷ [] → IsDrained feed → gives ls → IsReportOf (ls ∷ []) store settled forks short dropped → IsOwnReport gives feed store settled forks short dropped
  of_one ls all drained given of =
      let first : AreFirst (tables_of store) ls = subst (λ (ts : List Table). AreFirst ts ls) (sym same) (gives_first ls given) in
      let history = of.history first.history first.is
      (λ l was. subst (λ (ms : List Link). Among ms l) first.all (Among-left ls first.later l (sent_by_one ls l was))) in
      record { sent = ls; all = all; drained = drained; given = given; of = of; first = first; consistent = history.0; folded = history.1 }

  pub own_report : IsReport gives 1 feed store settled forks short dropped → ∥ IsOwnReport gives feed store settled forks short dropped ∥₁
  own_report report =
      let one = one_list feed.returned report.all in
      ∥∥₁_map report.admitted (λ all.
      of_one one.0 one.1 report.drained (subst (AreSent gives) one.1 all).0 (subst (λ (sent : List (List Link)). IsReportOf sent store settled forks short dropped) one.1 report.of))
