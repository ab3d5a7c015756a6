use Rattle.ovs_session_cases.proofs.case.of_reader.Given as goal

-- the history that was just opened, and the schema
abbrev pub ghosts-opened : goal.ghosts-opened
ghosts-opened g a = record { book = a.opened.seen.book; schema = a.schema.now }
