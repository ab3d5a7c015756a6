use denote.Exit.{yes}
use denote.Param.Send.{arg_send, arg_sync, param_send, param_sync}
use Rattle.ovs_recorded_source.proofs.Sending.{recorded_source_sends}
use Rattle.ovs_sockets.proofs.Sending.{socket_pollers_send}
use Rattle.ovs_server.proofs.DeskParts.{source_lock_sends, source_lock_shares}
use Rattle.ovs_server.specs.contracts.source.run_threads.{N-row}
use Rattle.ovs_server.proofs.source.run_threads.Goals as goal

pub run_source-requires-send-L : goal.run_source-requires-send-L
run_source-requires-send-L g c κs within =
    let name = N-row g.row.K g.row.Q g.row.N g.row.R in
    let desk = recorded_source_sends name g.N.SourceName c.holding_desk_sends.ensures in
    param_send 3 _ (arg_send _ yes _ (source_lock_sends _ _ name _ g.K.NodeName g.N.SourceName desk c.type_bounds.sync-R))

pub run_source-requires-sync-L : goal.run_source-requires-sync-L
run_source-requires-sync-L g c κs within =
    let name = N-row g.row.K g.row.Q g.row.N g.row.R in
    let desk = recorded_source_sends name g.N.SourceName c.holding_desk_sends.ensures in
    param_sync 3 _ (arg_sync _ yes _ (source_lock_shares _ _ name _ g.K.NodeName g.N.SourceName desk c.type_bounds.sync-R))

pub run_source-requires-send-D : goal.run_source-requires-send-D
run_source-requires-send-D g c κs within = param_send 4 _ (arg_send _ yes _ (socket_pollers_send _ c.type_bounds.send-R))

pub of-requires : goal.of-requires
of-requires g c = record { report = c.in_ok-report.ensures.sent.of }
