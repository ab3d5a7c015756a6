use Rattle.ovs_rows.specs.Row.{no_rows}
use Rattle.ovs_stream_cases.specs.Made.{commits_of}
use Rattle.ovs_stream_cases.proofs.relay.relayed.Given as goal

-- the history that was just opened, and the schema
abbrev pub ghosts-behind-K-NodeName : goal.ghosts-behind-K-NodeName
ghosts-behind-K-NodeName g a = record { book = a.opened.seen.book; schema = a.schema.now }

-- the commits that the links make
abbrev pub ghosts-behind-J-HistoryName : goal.ghosts-behind-J-HistoryName
ghosts-behind-J-HistoryName g a = record { commits = commits_of a.schema.now.description.tables no_rows a.links.items }
