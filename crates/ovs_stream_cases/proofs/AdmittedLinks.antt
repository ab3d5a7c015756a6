-- The bytes of a session stand for links of the history alone.
use Rattle.std.proofs.Common.{◌≡◌, ℕ, List, [], ◌∷◌, inl, refl, sym, subst}
use Rattle.std.proofs.lemmas.List.{append-nil}
use Rattle.std.proofs.lemmas.List.Elements.{All-nil, All-cons}
use Rattle.std.specs.Prelude.{Some}
use Rattle.std.specs.List.{All}
use Rattle.ovs_types.specs.Schema.{SchemaValue}
use Rattle.ovs_types.specs.declared.schema.Table.{Table}
use Rattle.ovs_rows.specs.Row.{Rows, no_rows}
use Rattle.ovs_links.specs.Chains.{start_of}
use Rattle.ovs_links.specs.Epochs.{Epoch, IsEpochHistory}
use Rattle.ovs_links.specs.History.{Commit, AreDistinct, IsHistory, links_of}
use Rattle.ovs_links.specs.Sets.{AllOf, IsOfTables}
use Rattle.ovs_links.specs.declared.link.Link.{Link}
use Rattle.ovs_links.proofs.HistoryLemmas.{history_changes}
use Rattle.ovs_upstream.specs.Lawful.{IsLawful}
use Rattle.ovs_wire.specs.Limits.{most_bytes}
use Rattle.ovs_node_threads.specs.Lines.{AdmitsBytes, AmongHistory}
use Rattle.ovs_node_threads.proofs.Lawful.{lawful_admits}
use Rattle.ovs_stream_cases.specs.Made.{IsHistoryOf, one_epoch}
use Rattle.ovs_stream_cases.specs.Said.{IsSession, said}

pub epoch_history : (tables : List Table) (commits : List Commit) → IsHistory tables no_rows commits → IsEpochHistory tables (one_epoch commits)
epoch_history tables commits history =
    record { first = history; later = tt; distinct = subst AreDistinct (sym (append-nil commits)) history.distinct }

pub session_admits : (schema : SchemaValue) (commits : List Commit) (ls : List Link) (asked : ℕ) (bytes : List ℕ) → IsHistoryOf schema.description.tables commits ls
    → IsSession schema ls asked bytes → AdmitsBytes (AmongHistory schema (one_epoch commits)) asked (Some bytes)
session_admits schema commits ls asked bytes of session =
    let e : Epoch = record { start = 0; commits = commits } in
    lawful_admits schema (one_epoch commits) most_bytes asked (said schema ls asked session.place) bytes (epoch_history schema.description.tables commits of.history)
    (e, inl refl, subst (λ (xs : List Link). IsLawful schema.description xs asked (said schema ls asked session.place)) of.links session.lawful) session.stream

-- ---- the links of a history

all_of : (P : Link → Type 0) (ls : List Link) → AllOf P ls → All P ls
all_of P [] all = All-nil P
all_of P (l ∷ ls) all = All-cons P l ls all.0 (all_of P ls all.1)

pub of_tables : (tables : List Table) (commits : List Commit) (ls : List Link) → IsHistoryOf tables commits ls → All (IsOfTables tables) ls
of_tables tables commits ls of =
    subst (All (IsOfTables tables)) (sym of.links) (all_of (IsOfTables tables) (links_of tables 0 no_rows commits) (history_changes tables 0 no_rows commits of.history.commits))

first_start : (tables : List Table) (commits : List Commit) → start_of (links_of tables 0 no_rows commits) ≡ 0
first_start tables [] = refl
first_start tables (k ∷ ks) = refl

pub begin_at_start : (tables : List Table) (commits : List Commit) (ls : List Link) → IsHistoryOf tables commits ls → start_of ls ≡ 0
begin_at_start tables commits ls of = subst (λ (xs : List Link). start_of xs ≡ 0) (sym of.links) (first_start tables commits)
