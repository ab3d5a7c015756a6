use Rattle.ovs_server.proofs.node.NodeServer.run.Given as goal

-- the history that was just opened, and the schema
abbrev pub ghosts-open : goal.ghosts-open
ghosts-open g a = record { book = a.opened.seen.book; schema = a.schema.now }
