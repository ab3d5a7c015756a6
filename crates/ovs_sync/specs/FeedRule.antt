-- The rule of the queue: what came of each end is what it sent, in its order.
use Rattle.std.specs.Prelude.{◌≡◌, ℕ, ◌<◌, ◌≤◌, ◌==◌, true, false, cond, List, [], ◌∷◌, ◌++◌, length, slice_index_or}
use mathlib.Core.Option.{Option, some, none}
use lib.ListN.{get_elem?}
use Rattle.ovs_sync.specs.declared.feed.item.Item.{Item}
use Rattle.ovs_sync.specs.declared.feed.rule.Side.{Side}

module _ {T : Type 0} where
  -- an end with this number, which sent this
  abbrev pub end : ℕ → List T → Side T
  end number sent = record { sends = true; number = number; sent = sent; takes = false; taken = []; ends = 0; returned = [] }

  -- the folder, which took this and made so many ends, of which the first that are back sent this
  abbrev pub folder : List (Item T) → ℕ → List (List T) → Side T
  folder taken ends returned = record { sends = false; number = 0; sent = []; takes = true; taken = taken; ends = ends; returned = returned }

  -- what an end leaves that came back
  abbrev pub nobody : Side T
  nobody = record { sends = false; number = 0; sent = []; takes = false; taken = []; ends = 0; returned = [] }

  -- what the items from the end p hold, in order
  abbrev pub values_of : ℕ → List (Item T) → List T
  values_of p [] = []
  values_of p (m ∷ ms) = cond (m.from == p) (m.value ∷ values_of p ms) (values_of p ms)

  -- an end has the pass that is kept under its number, and sent what is kept there
  abbrev pub FitsEnd : (ℕ → Option ℕ) → (ℕ → List T) → ℕ → Side T → Type 0
  FitsEnd seat sent pass v = v.sends ≡ true → (seat v.number ≡ some pass) × (v.sent ≡ sent v.number)

  -- the folder has the one pass that takes, and took all that was taken; under a number that it hasn't given out there is no
  -- end and nothing was sent; an end that is back can't send, and sent what the folder knows of it
  abbrev pub FitsFolder : ℕ → (ℕ → Option ℕ) → (ℕ → List T) → List (Item T) → ℕ → Side T → Type 0
  FitsFolder reader seat sent taken pass v =
      v.takes ≡ true
      → (pass ≡ reader) × (v.taken ≡ taken)
      × ((p : ℕ) → v.ends ≤ p → (seat p ≡ none) × (sent p ≡ []))
      × ((k : ℕ) → k < length v.returned → (seat k ≡ none) × (slice_index_or v.returned k [] ≡ sent k))
      × (length v.returned ≤ v.ends)

  -- what each end sent is what was taken of it, and then what the queue holds of it; and each side knows its own part
  abbrev pub KeepsOrder : List (Item T) → List (Side T) → Type 0
  KeepsOrder items views =
      (reader : ℕ) × (seat : ℕ → Option ℕ) × (sent : ℕ → List T) × (taken : List (Item T))
      × ((p : ℕ) → values_of p (taken ++ items) ≡ sent p)
      × ((pass : ℕ) (v : Side T) → get_elem? views pass ≡ some v → FitsEnd seat sent pass v × FitsFolder reader seat sent taken pass v)

  -- the end sent this item's value last, and else what it had sent
  abbrev pub SentMore : Side T → Item T → Side T → Type 0
  SentMore v item w = w ≡ end v.number (v.sent ++ item.value ∷ [])

  -- the folder took this item last, and else what it had taken
  abbrev pub TookMore : Side T → Item T → Side T → Type 0
  TookMore v item w = w ≡ folder (v.taken ++ item ∷ []) v.ends v.returned

  -- what each end that is back sent is what was taken of it, and then what the queue holds of it; nothing came from a number
  -- that no end has
  abbrev pub AddsUp : Side T → List (Item T) → Type 0
  AddsUp v items =
      ((k : ℕ) → k < length v.returned → slice_index_or v.returned k [] ≡ values_of k (v.taken ++ items))
      × ((p : ℕ) → v.ends ≤ p → values_of p (v.taken ++ items) ≡ [])
