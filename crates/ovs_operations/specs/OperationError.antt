-- Why an operation fails, and the order of the faults.
use Rattle.std.specs.Prelude.{ℕ, List, Result, Ok, Err, codes}
use Rattle.ovs_data.specs.declared.error.DatumError.{DatumError}
use Rattle.ovs_data.specs.declared.error.DatumError.TheVariants as wrong
use Rattle.ovs_query.specs.declared.error.QueryError.{QueryError}
use Rattle.ovs_query.specs.declared.error.QueryError.TheVariants as query
use Rattle.ovs_operations.specs.declared.operation_error.OperationError.{OperationError}
use Rattle.ovs_operations.specs.declared.operation_error.OperationError.TheVariants.{UnknownTable, UnknownColumn, BadCondition, BadValue, Constraint, UnknownName, DuplicateName, RangeError, NotSupported, Aborted, NotOwner, BadOperation}

-- what reading an operation, or carrying it out, gives
abbrev pub Read : Type 0 → Type 0
Read X = Result X OperationError

-- the order of the faults
abbrev pub rank : OperationError → ℕ
rank UnknownTable = 0
rank UnknownColumn = 1
rank BadCondition = 2
rank BadValue = 3
rank Constraint = 4
rank UnknownName = 5
rank DuplicateName = 6
rank RangeError = 7
rank NotSupported = 8
rank Aborted = 9
rank NotOwner = 10
rank BadOperation = 11

-- the text of each in an answer
abbrev pub fault_text : OperationError → List ℕ
fault_text UnknownTable = codes "unknown table"
fault_text UnknownColumn = codes "unknown column"
fault_text BadCondition = codes "bad condition"
fault_text BadValue = codes "bad value"
fault_text Constraint = codes "constraint violation"
fault_text UnknownName = codes "unknown name"
fault_text DuplicateName = codes "duplicate uuid-name"
fault_text RangeError = codes "range error"
fault_text NotSupported = codes "not supported"
fault_text Aborted = codes "aborted"
fault_text NotOwner = codes "not owner"
fault_text BadOperation = codes "bad operation"

-- a value's fault as the operation's: only counts and names have texts of their own
abbrev pub value_fault : DatumError → OperationError
value_fault wrong.WrongShape = BadValue
value_fault wrong.WrongKind = BadValue
value_fault wrong.NotInteger = BadValue
value_fault wrong.Duplicate = BadValue
value_fault wrong.WrongCount = Constraint
value_fault wrong.UnknownName = UnknownName
value_fault wrong.NoMemory = BadValue

abbrev pub in_value : {X : Type 0} → Result X DatumError → Read X
in_value (Ok x) = Ok x
in_value (Err e) = Err (value_fault e)

-- a query's fault as the operation's, with the same text
abbrev pub query_fault : QueryError → OperationError
query_fault query.UnknownTable = UnknownTable
query_fault query.UnknownColumn = UnknownColumn
query_fault query.BadCondition = BadCondition
query_fault query.UnknownName = UnknownName
query_fault query.ManyRequests = BadOperation
query_fault query.BadSelect = BadOperation
query_fault query.BadOperation = BadOperation
query_fault query.NoMemory = BadOperation

abbrev pub in_query : {X : Type 0} → Result X QueryError → Read X
in_query (Ok x) = Ok x
in_query (Err e) = Err (query_fault e)
