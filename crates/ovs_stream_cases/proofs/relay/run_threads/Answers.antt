use denote.Exit.{yes}
use denote.Param.Send.{arg_sync, param_sync}
use Rattle.std.proofs.Common.{refl}
use Rattle.ovs_recorded_desk.proofs.Sending.{recorded_desk_sends}
use Rattle.ovs_node_threads.proofs.DeskParts.{relay_lock_shares}
use Rattle.ovs_stream_cases.specs.Made.{one_epoch}
use Rattle.ovs_stream_cases.specs.contracts.relay.run_threads.{N-row}
use Rattle.ovs_stream_cases.proofs.AdmittedLinks.{epoch_history}
use Rattle.ovs_stream_cases.proofs.relay.run_threads.Goals as goal

pub run_relay-requires-sync-L : goal.run_relay-requires-sync-L
run_relay-requires-sync-L g c κs within =
    let name = N-row g.row.K g.row.J g.row.Q g.row.N g.row.R in
    let desk = recorded_desk_sends name g.N.DeskName c.relay_desk_sends.ensures in
    param_sync 4 _ (arg_sync _ yes _ (relay_lock_shares _ name g.N.DeskName _ desk c.type_bounds.sync-R))

pub returns : goal.returns
returns g c =
    let tables = g.K.NodeName.schema.description.tables in
    let commits = g.J.HistoryName.commits in
    record { headline = c.in_ok-report.ensures.headline (one_epoch commits) (epoch_history tables commits c.requires.history) (λ l admitted. admitted refl) }
