use Rattle.ovs_server.proofs.node.named.Given as goal

-- the history of the desk's steps that was just opened, and the desk with which they begin
abbrev pub ghosts-run_source_node : goal.ghosts-run_source_node
ghosts-run_source_node g a = record { book = a.opened.seen.book; start = a.desk }

-- the history of the desk's steps that was just opened, and the name of the desk's database
abbrev pub ghosts-run_relay_node : goal.ghosts-run_relay_node
ghosts-run_relay_node g a = record { book = a.opened.seen.book; database = a.database }
