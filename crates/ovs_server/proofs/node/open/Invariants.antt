use Rattle.ovs_server.proofs.node.open.Given as goal

-- the feed of the node that was just made
abbrev pub ghosts-named : goal.ghosts-named
ghosts-named g a = record { table = a.fresh.feed.items.table.shared.table_id }
