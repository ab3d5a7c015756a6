-- What contracts see of the sides of a feed.
use Rattle.std.specs.Prelude.{◌≡◌, ℕ, ◌<◌, ◌≤◌, List, [], length, refl, slice_index_or}
use Rattle.std.specs.Coded.{Coded, code_by, coded×, coded_ℕ, coded_list}
use Rattle.atomic_table.specs.Seated.{TableId}
use Rattle.crossbeam_queue.specs.Passes.{Pass, view}
use Rattle.ovs_sync.specs.declared.feed.item.Item.{Item}
use Rattle.ovs_sync.specs.declared.feed.rule.Side.{Side}
use Rattle.ovs_sync.specs.FeedRule.{end, folder, values_of}

-- a name that is no feed's
abbrev pub no_table : TableId
no_table = record { words = 0; slots = 0; views_name = 0; atom = 0; block = 0; offset = 0; slot_names = [] }

-- what the folder took, how many ends were made, and what each of the first ones, which are back, sent, by their numbers
pub record FeedValue (T : Type 0) : Type 0 where
  pub taken : List (Item T)
  pub ends : ℕ
  pub returned : List (List T)

abbrev pub item_code : {T : Type 0} → Coded T → Coded (Item T)
item_code {T} c = code_by (ℕ × T) (coded× coded_ℕ c) (λ i. (i.from, i.value)) (λ p. record { from = p.0; value = p.1 }) (λ _. refl)

abbrev pub feed_code : {T : Type 0} → Coded T → Coded (FeedValue T)
feed_code {T} c =
    code_by (List (Item T) × (ℕ × List (List T))) (coded× (coded_list (item_code c)) (coded× coded_ℕ (coded_list (coded_list c))))
    (λ f. (f.taken, (f.ends, f.returned))) (λ p. record { taken = p.0; ends = p.1.0; returned = p.1.1 }) (λ _. refl)

module _ {T : Type 0} where
  -- what a pass of the folder knows, where so many ends were made
  abbrev pub feed_of : ℕ → Pass (Item T) (Side T) → FeedValue T
  feed_of ends p = record { taken = (view p).taken; ends = ends; returned = (view p).returned }

  -- it is the folder's pass of this table, and knows this
  abbrev pub IsFeedOf : TableId → FeedValue T → Pass (Item T) (Side T) → Type 0
  IsFeedOf table f p = (p.table_id ≡ table) × (p.me.1 ≡ []) × (view p ≡ folder f.taken f.ends f.returned)

  -- what a pass of an end knows to have been sent
  abbrev pub sent_by : Pass (Item T) (Side T) → List T
  sent_by p = (view p).sent

  -- it is the pass of an end of this table, with this number, that sent this
  abbrev pub IsEndOf : TableId → ℕ → List T → Pass (Item T) (Side T) → Type 0
  IsEndOf table number sent p = (p.table_id ≡ table) × (p.me.1 ≡ []) × (view p ≡ end number sent)

  -- what was taken of each end that is back is all that it sent, and nothing came from a number that no end has
  abbrev pub IsDrained : FeedValue T → Type 0
  IsDrained f =
      ((k : ℕ) → k < length f.returned → slice_index_or f.returned k [] ≡ values_of k f.taken)
      × ((p : ℕ) → f.ends ≤ p → values_of p f.taken ≡ [])
