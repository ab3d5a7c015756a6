-- Why a JSON value is no query, and the order of the faults.
use Rattle.std.specs.Prelude.{ℕ, List, Result, codes}
use Rattle.ovs_query.specs.declared.error.QueryError.{QueryError}
use Rattle.ovs_query.specs.declared.error.QueryError.TheVariants.{UnknownTable, UnknownColumn, BadCondition, UnknownName, ManyRequests, BadSelect, BadOperation, NoMemory}

-- what reading gives
abbrev pub Read : Type 0 → Type 0
Read X = Result X QueryError

-- the order of the faults
abbrev pub rank : QueryError → ℕ
rank UnknownTable = 0
rank UnknownColumn = 1
rank BadCondition = 2
rank UnknownName = 3
rank ManyRequests = 4
rank BadSelect = 5
rank BadOperation = 6
rank NoMemory = 7

-- the text of each in an answer
abbrev pub query_text : QueryError → List ℕ
query_text UnknownTable = codes "unknown table"
query_text UnknownColumn = codes "unknown column"
query_text BadCondition = codes "bad condition"
query_text UnknownName = codes "unknown name"
query_text ManyRequests = codes "many requests"
query_text BadSelect = codes "bad select"
query_text BadOperation = codes "bad operation"
query_text NoMemory = codes "out of memory"
