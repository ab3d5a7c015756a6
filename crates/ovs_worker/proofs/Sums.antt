-- A session more.
use Rattle.std.proofs.Common.{◌≡◌, List, [], ◌∷◌, ◌++◌}
use Rattle.std.proofs.lemmas.List.Sums.{fold-append}
use Rattle.ovs_session.specs.declared.counts.Counts.{Counts}
use Rattle.ovs_worker.specs.Totals.{no_totals, totals_with, totals_of}

pub totals_more : (all : List Counts) (counts : Counts) → totals_of (all ++ counts ∷ []) ≡ totals_with (totals_of all) counts
totals_more all counts = fold-append totals_with no_totals all (counts ∷ [])
