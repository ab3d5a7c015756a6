-- The links of a history in their order, with those of one more commit behind them.
use Rattle.std.proofs.Common.{◌≡◌, ℕ, List, [], ◌∷◌, ◌++◌, sym, ◌∙◌, ap, append_assoc, append-nil}
use Rattle.ovs_types.specs.declared.schema.Table.{Table}
use Rattle.ovs_rows.specs.Row.{no_rows}
use Rattle.ovs_links.specs.Epochs.{Epoch, EpochHistory, epochs_of, links_within, links_in, latest_from, latest_of, committed, committed_in, begun_epoch, with_commit}
use Rattle.ovs_links.specs.History.{Commit}
use Rattle.ovs_links.specs.declared.link.Link.{Link}
use Rattle.ovs_links.proofs.CommitLemmas.{epochs_by, links_push, new_link, first_link}

in_order : (ts : List Table) (e : Epoch) (es : List Epoch) (k : Commit) → links_in ts (committed_in e es k) ≡ links_in ts (e ∷ es) ++ new_link ts (latest_from e es) k ∷ []
in_order ts e [] k =
    let l = new_link ts e k in
    append-nil (links_within ts (with_commit e k))
    ∙ links_push ts e.start no_rows e.commits k
    ∙ ap (λ (ls : List Link). ls ++ l ∷ []) (sym (append-nil (links_within ts e)))
in_order ts e (d ∷ ds) k =
    ap (λ (ls : List Link). links_within ts e ++ ls) (in_order ts d ds k) ∙ sym (append_assoc (links_within ts e) (links_in ts (d ∷ ds)) (new_link ts (latest_from d ds) k ∷ []))

pub committed_in_order : (ts : List Table) (h : EpochHistory) (k : Commit) → links_in ts (epochs_of (committed h k)) ≡ links_in ts (epochs_of h) ++ new_link ts (latest_of h) k ∷ []
committed_in_order ts h k =
    ap (links_in ts) (epochs_by h.first h.later k) ∙ in_order ts (record { start = 0; commits = h.first }) h.later k

behind : (ts : List Table) (es : List Epoch) (e : Epoch) → links_in ts (es ++ e ∷ []) ≡ links_in ts es ++ links_within ts e
behind ts [] e = append-nil (links_within ts e)
behind ts (d ∷ ds) e = ap (λ (ls : List Link). links_within ts d ++ ls) (behind ts ds e) ∙ sym (append_assoc (links_within ts d) (links_in ts ds) (links_within ts e))

pub begun_in_order : (ts : List Table) (h : EpochHistory) (start : ℕ) (k : Commit) → links_in ts (epochs_of (begun_epoch h start k)) ≡ links_in ts (epochs_of h) ++ first_link ts start k ∷ []
begun_in_order ts h start k = behind ts (epochs_of h) (record { start = start; commits = k ∷ [] })
