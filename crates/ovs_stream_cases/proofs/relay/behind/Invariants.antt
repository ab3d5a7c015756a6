use Rattle.ovs_stream_cases.proofs.relay.behind.Given as goal

-- the feed of the node that was just made
abbrev pub ghosts-named : goal.ghosts-named
ghosts-named g a = record { table = a.node.feed.items.table.shared.table_id }
