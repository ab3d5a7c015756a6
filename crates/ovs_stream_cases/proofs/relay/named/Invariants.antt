use Rattle.ovs_stream_cases.proofs.relay.named.Given as goal

-- the history of the desk's steps that was just opened, and the name of the desk's database
abbrev pub ghosts-run : goal.ghosts-run
ghosts-run g a = record { book = a.desk.opened.seen.book; database = a.desk.database }
