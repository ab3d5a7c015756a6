use Rattle.ovs_node_cases.proofs.worker.opened.Given as goal

-- the feed of the node that was just made
abbrev pub ghosts-published : goal.ghosts-published
ghosts-published g a = record { table = a.node.feed.items.table.shared.table_id }
