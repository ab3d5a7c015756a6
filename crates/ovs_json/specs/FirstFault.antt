-- Parts that are all looked at: of their faults the one of least rank is the answer, wherever it stands.
use Rattle.std.specs.Prelude.{ℕ, ◌≤◌, List, [], ◌∷◌, ◌++◌, Result, Ok, Err, if◌then◌else◌, nat_le, Vec}
use Rattle.std.specs.declared.alloc.Global.{Global}
use Rattle.serde_json.specs.Data.{Data, Members, no_members, member}
use Rattle.ovs_json.specs.Results.{result_map}

module _ {E : Type 0} (rank : E → ℕ) where
  -- the one of two faults that has the lower rank
  abbrev pub first_of : E → E → E
  first_of e f = if nat_le (rank e) (rank f) then e else f

  -- what two parts are, or the first of their faults
  abbrev pub both : {A B : Type 0} → Result A E → Result B E → Result (A × B) E
  both (Ok a) (Ok b) = Ok (a, b)
  both (Ok a) (Err f) = Err f
  both (Err e) (Ok b) = Err e
  both (Err e) (Err f) = Err (first_of e f)

  -- the parts so far, and one more
  abbrev pub with_one : {X : Type 0} → Result (List X) E → Result X E → Result (List X) E
  with_one so_far one = result_map (λ p. p.0 ++ p.1 ∷ []) (both so_far one)

  -- what the members are, each by its name and its value, or the first of all their faults
  abbrev pub read_all : {X : Type 0} → (List ℕ → Data → Result X E) → Members → Result (List X) E
  read_all read no_members = Ok []
  read_all read (member name d ms) = result_map (λ p. p.0 ∷ p.1) (both (read name d) (read_all read ms))

  -- a fault that there is, before which comes none that there is; or a value where there is none
  abbrev pub IsWorst : {X : Type 0} → (E → Type 0) → Result X E → Type 0
  IsWorst Has (Ok x) = (e : E) → Has e → ⊥
  IsWorst Has (Err e) = Has e × ((f : E) → Has f → rank e ≤ rank f)

-- the parts in a vector
abbrev pub items_of : {X E : Type 0} → Result (Vec X Global) E → Result (List X) E
items_of r = result_map (λ v. v.items) r
