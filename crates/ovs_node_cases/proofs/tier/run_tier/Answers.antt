use denote.Exit.{yes}
use denote.Param.Send.{arg_send, param_send}
use Rattle.ovs_server.proofs.Sending.{node_server_sends}
use Rattle.ovs_node_cases.proofs.Sending.{logged_sends}
use Rattle.ovs_node_cases.proofs.tier.run_tier.Goals as goal

pub run_both-of_source-requires-send-S : goal.run_both-of_source-requires-send-S
run_both-of_source-requires-send-S g c κs within = param_send 1 _ (arg_send _ yes _ (node_server_sends _ _ _ _ _ _ _ _ (logged_sends _ c.type_bounds.send-R)))

pub run_both-of_source-requires-send-N : goal.run_both-of_source-requires-send-N
run_both-of_source-requires-send-N g c κs within = param_send 2 _ (arg_send _ yes _ (node_server_sends _ _ _ _ _ _ _ _ (logged_sends _ c.type_bounds.send-R)))
