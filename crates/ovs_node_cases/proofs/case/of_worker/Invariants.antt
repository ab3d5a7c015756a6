use Rattle.ovs_node_cases.proofs.case.of_worker.Given as goal

-- the history that was just opened, and the schema
abbrev pub ghosts-opened : goal.ghosts-opened
ghosts-opened g a = record { book = a.opened.seen.book; schema = a.schema.now }
