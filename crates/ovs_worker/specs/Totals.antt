-- What sessions have counted in all.
use Rattle.std.specs.Prelude.{List, fold}
use Rattle.ovs_session.specs.declared.counts.Counts.{Counts}
use Rattle.ovs_session.specs.Counting.{count_on}
use Rattle.ovs_worker.specs.declared.totals.SessionTotals.{SessionTotals}

-- of no session
abbrev pub no_totals : SessionTotals
no_totals = record { sessions = 0; counts = record { turns = 0; messages = 0; bytes_out = 0 } }

-- of one session more, which counted this
abbrev pub totals_with : SessionTotals → Counts → SessionTotals
totals_with totals counts = record {
  sessions = count_on totals.sessions 1;
  counts = record {
    turns = count_on totals.counts.turns counts.turns;
    messages = count_on totals.counts.messages counts.messages;
    bytes_out = count_on totals.counts.bytes_out counts.bytes_out;
  };
}

-- of sessions that counted these
abbrev pub totals_of : List Counts → SessionTotals
totals_of = fold totals_with no_totals
