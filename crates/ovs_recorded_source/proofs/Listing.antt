-- The sessions for which replies wait, as they are kept.
use Rattle.std.proofs.Common.{◌≡◌, ◌∙◌, ℕ, List, [], ◌∷◌, ◌++◌, Bool, true, false, cond, Option, Some, None, refl, sym, ap, subst}
use Rattle.std.specs.Prelude.{◌<◌, unwrap_or, option_map, slice_get, IsSome, MatchOption}
use Rattle.std.specs.Option.{IsSomeAnd}
use Rattle.std.specs.VecDeque.{deque_len, deque_capacity}
use Rattle.std.specs.BTreeMap as tree
use Rattle.std.specs.BTreeMap.{BTreeMap, is_at, insert_entry}
use Rattle.std.specs.Cmp.{eq_by_cmp_equiv, nat_cmp_total}
use Rattle.std.specs.List.Sorted.{IsStrictlySortedBy}
use Rattle.std.specs.Map.{lookup, keys_of, set_value, remove_entry}
use Rattle.std.specs.Ordering.{nat_cmp, is_eq, match_ordering}
use Rattle.std.specs.declared.collections.VecDeque.{VecDeque}
use Rattle.std.specs.declared.cmp.Ordering.{Ordering}
use Rattle.std.specs.declared.cmp.Ordering.TheVariants.{Less, Equal, Greater}
use Rattle.std.proofs.lemmas.Map.{lookup-none}
use Rattle.std.proofs.lemmas.Map.Entries.{none_past_head}
use Rattle.std.proofs.lemmas.Map.Keys.{sorted_tail, IsDistinct-from_sorted}
use Rattle.ovs_locks.proofs.Notes.{other_session}
use Rattle.ovs_recorded_source.specs.Waiting.{Waiting, Become, TakesFirst, HasRoom, replies_at, standing_of, next_standing, with_session, listed}
use Rattle.ovs_recorded_source.specs.declared.waiting.WaitingReply.{WaitingReply}

-- what is kept for one session, and for all
abbrev Replies : Type 0 → Type 0
Replies Z = VecDeque WaitingReply Z

abbrev Kept : Type 0 → Type 0
Kept Z = List (ℕ × Replies Z)

abbrev Map : Type 0 → Type 0
Map Z = BTreeMap ℕ (Replies Z)

at_session : (session k : ℕ) (items : List WaitingReply) (others : Waiting) (b : Bool) → is_at (nat_cmp session) k ≡ b → (b ≡ true → replies_at session others ≡ [])
    → replies_at session (with_session k items others) ≡ cond b items (replies_at session others)
at_session session k [] others true at none = none refl
at_session session k [] others false at none = refl
at_session session k (r ∷ later) others true at none = ap (λ c. unwrap_or (cond c (Some (r ∷ later)) (lookup (is_at (nat_cmp session)) others)) []) at
at_session session k (r ∷ later) others false at none = ap (λ c. unwrap_or (cond c (Some (r ∷ later)) (lookup (is_at (nat_cmp session)) others)) []) at

pub none_stands : (session : ℕ) (old : Waiting) → replies_at session old ≡ [] → None ≡ next_standing session old
none_stands session old none = sym (ap (λ (rs : List WaitingReply). option_map standing_of (slice_get rs 0)) none)

module _ {Z : Type 0} where
  abbrev items_of : Replies Z → List WaitingReply
  items_of d = d.items

  -- those that are kept for a session
  abbrev kept_at : ℕ → Kept Z → List WaitingReply
  kept_at session es = unwrap_or (option_map items_of (lookup (is_at (nat_cmp session)) es)) []

  -- ---- a look-up

  nothing_kept : (session : ℕ) (es : Kept Z) → lookup (is_at (nat_cmp session)) es ≡ None → kept_at session es ≡ []
  nothing_kept session es none = ap (λ o. unwrap_or (option_map items_of o) []) none

  pub at_listed : (session : ℕ) (es : Kept Z) → IsStrictlySortedBy nat_cmp (keys_of es) → replies_at session (listed es) ≡ kept_at session es
  at_listed session [] sorted = refl
  at_listed session (e ∷ es) sorted = by (is_at (nat_cmp session) e.0) refl (at_listed session es (sorted_tail nat_cmp e.0 (keys_of es) sorted))
    where
      past : is_at (nat_cmp session) e.0 ≡ true → lookup (is_at (nat_cmp session)) es ≡ None
      past at = lookup-none (is_at (nat_cmp session)) es (none_past_head (eq_by_cmp_equiv nat_cmp_total) session e es (IsDistinct-from_sorted nat_cmp (keys_of (e ∷ es)) sorted) at)

      by : (b : Bool) → is_at (nat_cmp session) e.0 ≡ b → replies_at session (listed es) ≡ kept_at session es
          → replies_at session (listed (e ∷ es)) ≡ unwrap_or (option_map items_of (cond b (Some e.1) (lookup (is_at (nat_cmp session)) es))) []
      by true at rest = at_session session e.0 e.1.items (listed es) true at (λ _. rest ∙ nothing_kept session es (past at))
      by false at rest = at_session session e.0 e.1.items (listed es) false at (λ t. absurd cc) ∙ rest

  -- ---- what doesn't change them

  -- room for a session for which none waits
  pub listed_with_room : (session : ℕ) (d : Replies Z) → d.items ≡ [] → (es : Kept Z) → lookup (is_at (nat_cmp session)) es ≡ None → listed (insert_entry nat_cmp es session d) ≡ listed es
  listed_with_room session d is [] none = ap (λ (xs : List WaitingReply). with_session session xs []) is
  listed_with_room session d is (e ∷ es) none = by (nat_cmp session e.0) none (λ n. listed_with_room session d is es n)
    where
      by : (o : Ordering) → cond (is_eq o) (Some e.1) (lookup (is_at (nat_cmp session)) es) ≡ None → (lookup (is_at (nat_cmp session)) es ≡ None → listed (insert_entry nat_cmp es session d) ≡ listed es)
          → listed (match_ordering o ((session, d) ∷ e ∷ es) ((e.0, d) ∷ es) (e ∷ insert_entry nat_cmp es session d)) ≡ listed (e ∷ es)
      by Less n more = ap (λ (xs : List WaitingReply). with_session session xs (listed (e ∷ es))) is
      by Equal n more = absurd cc
      by Greater n more = ap (with_session e.0 e.1.items) (more n)

  -- room for one more of a session
  pub listed_with_more_room : (test : ℕ → Bool) (was d : Replies Z) → d.items ≡ was.items → (es : Kept Z) → lookup test es ≡ Some was → listed (set_value test es d) ≡ listed es
  listed_with_more_room test was d is [] found = absurd cc
  listed_with_more_room test was d is (e ∷ es) found = by (test e.0) found (λ f. listed_with_more_room test was d is es f)
    where
      by : (b : Bool) → cond b (Some e.1) (lookup test es) ≡ Some was → (lookup test es ≡ Some was → listed (set_value test es d) ≡ listed es)
          → listed (cond b ((e.0, d) ∷ es) (e ∷ set_value test es d)) ≡ listed (e ∷ es)
      by true f more = (let same : e.1 ≡ was = cc in ap (λ (xs : List WaitingReply). with_session e.0 xs (listed es)) (is ∙ ap items_of (sym same)))
      by false f more = ap (with_session e.0 e.1.items) (more f)

  -- a session for which none waits is taken out
  pub listed_without_room : (test : ℕ → Bool) (d : Replies Z) → d.items ≡ [] → (es : Kept Z) → lookup test es ≡ Some d → listed (remove_entry test es) ≡ listed es
  listed_without_room test d is [] found = absurd cc
  listed_without_room test d is (e ∷ es) found = by (test e.0) found (λ f. listed_without_room test d is es f)
    where
      by : (b : Bool) → cond b (Some e.1) (lookup test es) ≡ Some d → (lookup test es ≡ Some d → listed (remove_entry test es) ≡ listed es)
          → listed (cond b es (e ∷ remove_entry test es)) ≡ listed (e ∷ es)
      by true f more = (let same : e.1 ≡ d = cc in sym (ap (λ (xs : List WaitingReply). with_session e.0 xs (listed es)) (ap items_of same ∙ is)))
      by false f more = ap (with_session e.0 e.1.items) (more f)

  -- ---- what changes those of one session

  pub become : (session : ℕ) (m n : Map Z) (w : Option (Replies Z)) (replies : List WaitingReply) → tree.IsOrdered nat_cmp m → tree.IsOrdered nat_cmp n
      → tree.Updates nat_cmp m n session w → unwrap_or (option_map items_of w) [] ≡ replies → Become (listed m.entries) session replies (listed n.entries)
  become session m n w replies before after u is = record {
    at = at_listed session n.entries after ∙ ap (λ (o : Option (Replies Z)). unwrap_or (option_map items_of o) []) u.1 ∙ is;
    others = λ other apart.
        at_listed other n.entries after
        ∙ ap (λ (o : Option (Replies Z)). unwrap_or (option_map items_of o) []) (u.2 other (other_session session other apart))
        ∙ sym (at_listed other m.entries before);
  }

  there : (o : Option (Replies Z)) (d : Replies Z) → Some d ≡ o → IsSome o
  there None d is = absurd cc
  there (Some x) d is = refl

  -- those of a session are written anew
  module _ (session : ℕ) (m n : Map Z) (was now : Replies Z) (is : Some was ≡ tree.get_by (nat_cmp session) m) (w : tree.WritesThrough nat_cmp (nat_cmp session) m now n) where
    updates : tree.Updates nat_cmp m n session (Some now)
    updates = w.3 (there (tree.get_by (nat_cmp session) m) was is)

    pub found_at : tree.IsOrdered nat_cmp m → replies_at session (listed m.entries) ≡ was.items
    found_at ordered = at_listed session m.entries ordered ∙ ap (λ (o : Option (Replies Z)). unwrap_or (option_map items_of o) []) (sym is)

    pub same_items : now.items ≡ was.items → listed n.entries ≡ listed m.entries
    same_items same = ap listed w.0 ∙ listed_with_more_room (is_at (nat_cmp session)) was now same m.entries (sym is)

    pub room_for_more : deque_len now < deque_capacity now → HasRoom session n
    room_for_more room = subst (λ (o : Option (Replies Z)). IsSomeAnd o (λ d. deque_len d < deque_capacity d)) (sym updates.1) room

    pub one_put : (reply : WaitingReply) → tree.IsOrdered nat_cmp m → now.items ≡ was.items ++ reply ∷ []
        → Become (listed m.entries) session (replies_at session (listed m.entries) ++ reply ∷ []) (listed n.entries)
    one_put reply ordered put = become session m n (Some now) _ ordered w.4 updates (put ∙ ap (λ (rs : List WaitingReply). rs ++ reply ∷ []) (sym (found_at ordered)))

    pub one_taken : (first : Option WaitingReply) (left : Waiting) → tree.IsOrdered nat_cmp m → MatchOption first ((was.items ≡ []) × (now.items ≡ [])) (λ r. was.items ≡ r ∷ now.items)
        → left ≡ listed n.entries → TakesFirst session (listed m.entries) first left
    one_taken None left ordered took same = (found_at ordered ∙ took.0, same ∙ same_items (took.1 ∙ sym took.0))
    one_taken (Some r) left ordered took same = (
      now.items,
      found_at ordered ∙ took,
      subst (λ (v : Waiting). Become (listed m.entries) session now.items v) (sym same) (become session m n (Some now) now.items ordered w.4 updates refl),
    )

  pub none_at : (session : ℕ) (m : Map Z) → tree.IsOrdered nat_cmp m → None ≡ tree.get_by (nat_cmp session) m → replies_at session (listed m.entries) ≡ []
  none_at session m ordered is = at_listed session m.entries ordered ∙ ap (λ (o : Option (Replies Z)). unwrap_or (option_map items_of o) []) (sym is)

  pub first_stands : (session : ℕ) (m : Map Z) (d : Replies Z) → tree.IsOrdered nat_cmp m → Some d ≡ tree.get_by (nat_cmp session) m
      → option_map standing_of (slice_get d.items 0) ≡ next_standing session (listed m.entries)
  first_stands session m d ordered is = ap (λ (rs : List WaitingReply). option_map standing_of (slice_get rs 0))
      (sym (at_listed session m.entries ordered ∙ ap (λ (o : Option (Replies Z)). unwrap_or (option_map items_of o) []) (sym is)))

  -- a session for which none waits, with room for one
  pub room_put : (session : ℕ) (m w n : Map Z) (d : Replies Z) → w ≡ m → None ≡ tree.get_by (nat_cmp session) m → d.items ≡ [] → n.entries ≡ insert_entry nat_cmp w.entries session d
      → listed n.entries ≡ listed m.entries
  room_put session m w n d same none empty put =
      ap listed (put ∙ ap (λ (x : Map Z). insert_entry nat_cmp x.entries session d) same) ∙ listed_with_room session d empty m.entries (sym none)

  pub none_taken : (session : ℕ) (m w : Map Z) (first : Option WaitingReply) → tree.IsOrdered nat_cmp m → w ≡ m → None ≡ tree.get_by (nat_cmp session) m → first ≡ None
      → TakesFirst session (listed m.entries) first (listed w.entries)
  none_taken session m w first ordered same none is =
      subst (λ (o : Option WaitingReply). TakesFirst session (listed m.entries) o (listed w.entries)) (sym is) (none_at session m ordered none, ap (λ (x : Map Z). listed x.entries) same)
