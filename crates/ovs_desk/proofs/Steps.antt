-- What a call makes of the requests.
use Rattle.std.proofs.Common.{None, Bool, List, Some, [], ap, arith, cond, drop, false, get_or, length, map, not, refl, set, suc, sym, take, true, zero, ℕ, ◌&&◌, ◌*◌, ◌+◌, subst, ◌++◌, ◌<◌, ◌==◌, ◌∙◌, ◌∷◌, ◌≡◌}
use Rattle.std.specs.Prelude.{◌≢◌, position, filter, is_some, Option, IfNone, ⊤}
use Rattle.serde_json.specs.Data.{Data}
use Rattle.std.specs.List.{find, remove}
use Rattle.ovs_wire.specs.declared.message.Message.{Message}
use Rattle.std.proofs.lemmas.Bool.{ne_eqb}
use Rattle.slab.specs.Slab.{Slab, ContainsKey, SameValues, Updates, slab_len}
use Rattle.ovs_desk.specs.declared.forwarded.Forwarded.{Forwarded}
use Rattle.ovs_desk.specs.declared.forwarded.RequestFilter.TheVariants.{ToGo, Due}
use Rattle.ovs_desk.specs.declared.forwarded.ForwardedState.{ForwardedState}
use Rattle.ovs_desk.specs.declared.forwarded.ForwardedState.TheVariants.{Waiting, Taken, Answered, Lost}
use Rattle.ovs_desk.specs.Book.{ArePlaced, IsBook}
use Rattle.ovs_desk.specs.Ledger.{place_of, is_lost, is_open, is_waiting, message_of, going_up, passes, reply_of, going_back, lost, settled, settled_state, at_first, without_first}
use Rattle.ovs_desk.proofs.Firsts.{hit}
use Rattle.ovs_desk.proofs.Numbers.{changed_first, all_changed, without}
use Rattle.ovs_desk.proofs.Places.{same_placed, placed_first, placed_all, placed_without}

-- ---- how many there are

pub length_first : (p : Forwarded → Bool) (f : Forwarded → Forwarded) (es : List Forwarded) → length (at_first p f es) ≡ length es
length_first p f [] = refl
length_first p f (e ∷ es) = by (p e) (length_first p f es)
  where
    by : (b : Bool) → length (at_first p f es) ≡ length es → length (cond b (f e ∷ es) (e ∷ at_first p f es)) ≡ suc (length es)
    by true rest = refl
    by false rest = ap suc rest

pub length_all : (f : Forwarded → Forwarded) (es : List Forwarded) → length (map f es) ≡ length es
length_all f [] = refl
length_all f (e ∷ es) = ap suc (length_all f es)

pub length_without : (p : Forwarded → Bool) (es : List Forwarded) (r : Forwarded) → find p es ≡ Some r → suc (length (without_first p es)) ≡ length es
length_without p [] r is = absurd cc
length_without p (e ∷ es) r is = by (p e) is (length_without p es r)
  where
    by : (b : Bool) → cond b (Some e) (find p es) ≡ Some r → (find p es ≡ Some r → suc (length (without_first p es)) ≡ length es)
        → suc (length (cond b es (e ∷ without_first p es))) ≡ suc (length es)
    by true h more = refl
    by false h more = ap suc (more h)

-- one that was found has its place
pub place_taken : (s : Slab ⊤) (p : Forwarded → Bool) (es : List Forwarded) (r : Forwarded) → ArePlaced s es → find p es ≡ Some r → ContainsKey s (place_of r.number)
place_taken s p [] r placed is = absurd cc
place_taken s p (e ∷ es) r placed is = by (p e) is (place_taken s p es r placed.2)
  where
    by : (b : Bool) → cond b (Some e) (find p es) ≡ Some r → (find p es ≡ Some r → ContainsKey s (place_of r.number)) → ContainsKey s (place_of r.number)
    by true h more = (let same : e ≡ r = cc in subst (λ (x : Forwarded). ContainsKey s (place_of x.number)) same placed.0)
    by false h more = more h

module _ (p : Forwarded → Bool) (f : Forwarded → Forwarded) where
  -- the one that was found becomes what f makes of it
  pub changed_to : (es : List Forwarded) (i : ℕ) (e new : Forwarded) → position p es ≡ Some i → e ≡ get_or es i e → new ≡ f e → set es i new ≡ at_first p f es
  changed_to es i e new at is made = ap (set es i) (made ∙ ap f is) ∙ sym ((hit p es i e at).changed f)

  pub book_changed : (keeps : (e : Forwarded) → (f e).number ≡ e.number) (sent : ℕ) (es : List Forwarded) (s : Slab ⊤) → IsBook sent es s → IsBook sent (at_first p f es) s
  book_changed keeps sent es s b = record {
    few = b.few;
    ascend = changed_first f keeps p 0 (4096 * sent) es b.ascend;
    placed = placed_first f keeps s p es b.placed;
    counted = b.counted ∙ sym (length_first p f es);
  }

pub book_without : (p : Forwarded → Bool) (sent : ℕ) (es : List Forwarded) (s t : Slab ⊤) (r : Forwarded) → IsBook sent es s → find p es ≡ Some r
    → Updates s t (place_of r.number) None → slab_len t + 1 ≡ slab_len s → IsBook sent (without_first p es) t
book_without p sent es s t r b is u fewer = record {
  few = b.few;
  ascend = without p 0 (4096 * sent) es b.ascend;
  placed = placed_without s t p es r b.placed is u;
  counted = let one = length_without p es r is in let all = b.counted in omega (arith, one, all, fewer);
}

removed_same : (es : List Forwarded) (i : ℕ) (x : Forwarded) → remove (set es i x) i ≡ remove es i
removed_same [] i x = refl
removed_same (e ∷ es) zero x = refl
removed_same (e ∷ es) (suc i) x = ap (λ (l : List Forwarded). e ∷ l) (removed_same es i x)

-- the one that was found is written anew, and taken out
pub taken_out : (p : Forwarded → Bool) (es : List Forwarded) (i : ℕ) (e new : Forwarded) → position p es ≡ Some i → remove (set es i new) i ≡ without_first p es
taken_out p es i e new at = removed_same es i new ∙ sym (hit p es i e at).removed

-- room changes no place
pub book_room : (sent : ℕ) (es : List Forwarded) (s t : Slab ⊤) → SameValues s t → slab_len t ≡ slab_len s → IsBook sent es s → IsBook sent es t
book_room sent es s t same len b = record { few = b.few; ascend = b.ascend; placed = same_placed s t es same b.placed; counted = len ∙ b.counted }

-- ---- what is due

pub due_state : (session : ℕ) (e : Forwarded) → passes (Due session) e ≡ true → is_open e.state ≡ false
due_state session e due = by (e.asker == session) (is_open e.state) due
  where
    by : (a b : Bool) → (a && not b) ≡ true → b ≡ false
    by true true h = absurd cc
    by true false h = refl
    by false b h = absurd cc

settled_is : (s : ForwardedState) → is_lost (settled_state s) ≡ false
settled_is (Waiting request) = refl
settled_is Taken = refl
settled_is (Answered answer) = refl
settled_is Lost = refl

pub not_lost : (e : Forwarded) → is_lost (settled e).state ≡ false
not_lost e = settled_is e.state

same_reply : (id : Data) (s : ForwardedState) → going_back id (settled_state s) ≡ going_back id s
same_reply id (Waiting request) = refl
same_reply id Taken = refl
same_reply id (Answered answer) = refl
same_reply id Lost = refl

pub reply_settled : (e : Forwarded) → reply_of (settled e) ≡ reply_of e
reply_settled e = same_reply e.id e.state

-- ---- all of them

lost_number : (e : Forwarded) (b : Bool) → is_open e.state ≡ b → (lost e).number ≡ e.number
lost_number e true is = rw is refl
lost_number e false is = rw is refl

pub book_lost : (sent : ℕ) (es : List Forwarded) (s : Slab ⊤) → IsBook sent es s → IsBook sent (map lost es) s
book_lost sent es s b =
    let keeps : (e : Forwarded) → (lost e).number ≡ e.number = λ e. lost_number e (is_open e.state) refl in
    record { few = b.few; ascend = all_changed lost keeps 0 (4096 * sent) es b.ascend; placed = placed_all lost keeps s es b.placed; counted = b.counted ∙ sym (length_all lost es) }

-- where one that doesn't stay is taken out, those that stay do
pub kept_without : (stays test : Forwarded → Bool) → ((e : Forwarded) → test e ≡ true → stays e ≡ false) → (es : List Forwarded)
    → filter stays (without_first test es) ≡ filter stays es
kept_without stays test goes [] = refl
kept_without stays test goes (e ∷ es) = by (kept_without stays test goes es) (test e) refl
  where
    by : filter stays (without_first test es) ≡ filter stays es → (b : Bool) → test e ≡ b
        → filter stays (cond b es (e ∷ without_first test es)) ≡ cond (stays e) (e ∷ filter stays es) (filter stays es)
    by later true is = rw (goes e is) refl
    by later false is = ap (λ (l : List Forwarded). cond (stays e) (e ∷ l) l) later

-- where none goes, all stay
pub all_kept : (stays test : Forwarded → Bool) → ((e : Forwarded) → test e ≡ false → stays e ≡ true) → (es : List Forwarded) → is_some (find test es) ≡ false
    → filter stays es ≡ es
all_kept stays test keeps [] none = refl
all_kept stays test keeps (e ∷ es) none = by (all_kept stays test keeps es) (test e) refl none
  where
    by : (is_some (find test es) ≡ false → filter stays es ≡ es) → (b : Bool) → test e ≡ b → is_some (cond b (Some e) (find test es)) ≡ false
        → cond (stays e) (e ∷ filter stays es) (filter stays es) ≡ e ∷ es
    by later true is h = absurd cc
    by later false is h = rw (keeps e is) (ap (λ (l : List Forwarded). e ∷ l) (later h))

-- where none is found, none is taken out
pub none_out : (test : Forwarded → Bool) (es : List Forwarded) → is_some (find test es) ≡ false → without_first test es ≡ es
none_out test [] none = refl
none_out test (e ∷ es) none = by (none_out test es) (test e) none
  where
    by : (is_some (find test es) ≡ false → without_first test es ≡ es) → (b : Bool) → is_some (cond b (Some e) (find test es)) ≡ false
        → cond b es (e ∷ without_first test es) ≡ e ∷ es
    by later true h = absurd cc
    by later false h = ap (λ (l : List Forwarded). e ∷ l) (later h)

-- one fewer is left
pub fewer : (test : Forwarded → Bool) (es : List Forwarded) → is_some (find test es) ≡ true → length (without_first test es) < length es
fewer test [] some = absurd cc
fewer test (e ∷ es) some = by (fewer test es) (test e) some
  where
    by : (is_some (find test es) ≡ true → length (without_first test es) < length es) → (b : Bool) → is_some (cond b (Some e) (find test es)) ≡ true
        → length (cond b es (e ∷ without_first test es)) < suc (length es)
    by later true h = omega arith
    by later false h = let less = later h in omega (arith, less)

-- one more of them is written
pub one_written : (es : List Forwarded) (i : ℕ) (d : Forwarded) → i < length es
    → set (map lost (take i es) ++ drop i es) i (lost (get_or (map lost (take i es) ++ drop i es) i d)) ≡ map lost (take (suc i) es) ++ drop (suc i) es
one_written [] i d h = absurd (omega arith)
one_written (e ∷ es) zero d h = refl
one_written (e ∷ es) (suc i) d h = ap (λ (l : List Forwarded). lost e ∷ l) (one_written es i d (omega arith))

-- a list that was lent whole and written anew
pub lent_whole : (es : List Forwarded) → take (length es) (map lost es ++ drop (length (map lost es)) es) ≡ map lost es
lent_whole [] = refl
lent_whole (e ∷ es) = ap (λ (l : List Forwarded). lost e ∷ l) (lent_whole es)

-- what waits goes up as a message, and what is due goes back as one
goes_up_by : (n : ℕ) (s : ForwardedState) (P : Type 0) → is_waiting s ≡ true → IfNone (going_up n s) P
goes_up_by n (Waiting request) P e = tt
goes_up_by n Taken P e = absurd cc
goes_up_by n (Answered answer) P e = absurd cc
goes_up_by n Lost P e = absurd cc

pub goes_up : (e : Forwarded) (m : Option Message) (P : Type 0) → m ≡ message_of e → passes ToGo e ≡ true → IfNone m P
goes_up e m P is waits = subst (λ (x : Option Message). IfNone x P) (sym is) (goes_up_by e.number e.state P waits)

goes_back_by : (id : Data) (s : ForwardedState) (P : Type 0) → is_open s ≡ false → IfNone (going_back id (settled_state s)) P
goes_back_by id (Waiting request) P e = absurd cc
goes_back_by id Taken P e = absurd cc
goes_back_by id (Answered answer) P e = tt
goes_back_by id Lost P e = tt

pub goes_back : (session : ℕ) (e : Forwarded) (m : Option Message) (P : Type 0) → m ≡ reply_of (settled e) → passes (Due session) e ≡ true → IfNone m P
goes_back session e m P is due = subst (λ (x : Option Message). IfNone x P) (sym is) (goes_back_by e.id e.state P (due_state session e due))

-- ---- one that was found

pub both : (a b : Bool) → (a && b) ≡ true → (a ≡ true) × (b ≡ true)
both true b e = (refl, e)
both false b e = absurd cc

pub another : (session other : ℕ) → other ≢ session → (session == other) ≡ false
another session other apart = ne_eqb session other (λ e. apart (sym e))

pub found_passes : (p : Forwarded → Bool) (xs : List Forwarded) (r : Forwarded) → find p xs ≡ Some r → p r ≡ true
found_passes p [] r e = absurd cc
found_passes p (x ∷ xs) r e = by (p x) refl e (found_passes p xs r)
  where
    by : (c : Bool) → p x ≡ c → cond c (Some x) (find p xs) ≡ Some r → (find p xs ≡ Some r → p r ≡ true) → p r ≡ true
    by true so h more = (let same : x ≡ r = cc in ap p (sym same) ∙ so)
    by false so h more = more h
