-- What is handed on to a desk that a handler may have.
use Rattle.std.specs.Prelude.{Option, Some, None}

-- the call was made on the desk by who knew of its calls those before it, and knows these now; where there is no desk, this holds
abbrev pub IsCalled : (A : Type 0) → Type 0 → (A → A → Type 0) → Option A → Option A → Type 0
IsCalled A elsewhere call (Some before) (Some after) = call before after
IsCalled A elsewhere call None None = elsewhere
IsCalled A elsewhere call (Some before) None = ⊥
IsCalled A elsewhere call None (Some after) = ⊥
