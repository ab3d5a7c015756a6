-- Each text says a message, or says none.
use Rattle.std.proofs.Common.{◌≡◌, ◌≢◌, ◌⊎◌, inl, inr, ℕ, List, Bool, true, false, Option, Some, None, codes, refl, sym, ◌∙◌, ap, subst}
use Rattle.std.specs.Prelude.{IsSome}
use Rattle.std.specs.Str.{is_utf8}
use Rattle.std.proofs.lemmas.Str.{IsUtf8-from_is_utf8, is_utf8-from_IsUtf8}
use Rattle.serde_json.specs.Data.{Data, null, boolean, number, string, array, object, Items}
use Rattle.serde_json.specs.Find.{get}
use Rattle.serde_json.specs.Read.{read}
use Rattle.serde_json.specs.View.{items_of}
use Rattle.ovs_wire.specs.Message.{Says, Spells, Calls, member_or_null}
use Rattle.ovs_wire.specs.Reading.{list_of}
use Rattle.ovs_wire.specs.declared.message.Message.{Message}
use Rattle.ovs_wire.specs.declared.message.Message.TheVariants.{Request, Reply, Notice}
use Rattle.ovs_wire.proofs.Lists.{items_again}
use Rattle.ovs_session.specs.Messages.{SaysNothing}

null_or_not : (d : Data) → (d ≡ null) ⊎ (d ≢ null)
null_or_not null = inl refl
null_or_not (boolean b) = inr (λ e. cc)
null_or_not (number n) = inr (λ e. cc)
null_or_not (string s) = inr (λ e. cc)
null_or_not (array ds) = inr (λ e. cc)
null_or_not (object ms) = inr (λ e. cc)

abbrev SpellsNone : Data → Type 0
SpellsNone d = (m : Message) → Spells d m → ⊥

abbrev Decided : Data → Type 0
Decided d = ((m : Message) × Spells d m) ⊎ SpellsNone d

-- no message is spelled by what has neither a method with params nor an answer
none_of : (d : Data) → ((method : List ℕ) (ps : List Data) → Calls d method ps → ⊥)
    → (get (codes "method") d ≡ None → IsSome (get (codes "result") d) ⊎ IsSome (get (codes "error") d) → member_or_null (codes "id") d ≢ null → ⊥)
    → SpellsNone d
none_of d call reply (Request method ps id) s = call method ps s.0
none_of d call reply (Notice method ps) s = call method ps s.0
none_of d call reply (Reply result error id) s = reply s.0 s.1 (λ e. s.5 (sym s.4 ∙ e))

other_method : (d m : Data) → get (codes "method") d ≡ Some m → ((s : List ℕ) → m ≢ string s) → Decided d
other_method d m is other = inr (none_of d
    (λ method ps calls. let same : Some m ≡ Some (string method) = sym is ∙ calls.0 in other method cc)
    (λ none some id. let no : Some m ≡ None = sym is ∙ none in absurd cc))

other_params : (d : Data) (method : List ℕ) (o : Option Data) → get (codes "method") d ≡ Some (string method) → get (codes "params") d ≡ o
    → ((ds : Items) → o ≢ Some (array ds)) → Decided d
other_params d method o is params other = inr (none_of d
    (λ name ps calls. other (items_of ps) (sym params ∙ calls.1))
    (λ none some id. let no : Some (string method) ≡ None = sym is ∙ none in absurd cc))

-- a method and params
called : (d : Data) (method : List ℕ) (ds : Items) → get (codes "method") d ≡ Some (string method) → get (codes "params") d ≡ Some (array ds) → Decided d
called d method ds is params =
    let calls : Calls d method (list_of ds) = (is, params ∙ ap (λ xs. Some (array xs)) (sym (items_again ds))) in
    elim (null_or_not (member_or_null (codes "id") d)) [
      | inl none ↦ inl (Notice method (list_of ds), (calls, none))
      | inr some ↦ inl (Request method (list_of ds) (member_or_null (codes "id") d), (calls, refl, some))
    ]

with_method : (d : Data) (method : List ℕ) → get (codes "method") d ≡ Some (string method) → Decided d
with_method d method is = by (get (codes "params") d) refl
  where
    by : (o : Option Data) → get (codes "params") d ≡ o → Decided d
    by None e = other_params d method None is e (λ ds no. cc)
    by (Some null) e = other_params d method (Some null) is e (λ ds no. cc)
    by (Some (boolean b)) e = other_params d method (Some (boolean b)) is e (λ ds no. cc)
    by (Some (number n)) e = other_params d method (Some (number n)) is e (λ ds no. cc)
    by (Some (string s)) e = other_params d method (Some (string s)) is e (λ ds no. cc)
    by (Some (object ms)) e = other_params d method (Some (object ms)) is e (λ ds no. cc)
    by (Some (array ds)) e = called d method ds is e

-- an answer
replied : (d : Data) → get (codes "method") d ≡ None → IsSome (get (codes "result") d) ⊎ IsSome (get (codes "error") d) → Decided d
replied d is some = elim (null_or_not (member_or_null (codes "id") d)) [
  | inl none ↦ inr (none_of d (λ method ps calls. let no : None ≡ Some (string method) = sym is ∙ calls.0 in absurd cc) (λ _ _ id. id none))
  | inr id ↦ inl (Reply (member_or_null (codes "result") d) (member_or_null (codes "error") d) (member_or_null (codes "id") d), (is, some, refl, refl, refl, id))
]

no_some : (o : Option Data) → o ≡ None → IsSome o → ⊥
no_some None is some = let no : false ≡ true = some in cc
no_some (Some d) is some = cc

without_method : (d : Data) → get (codes "method") d ≡ None → Decided d
without_method d is = by (get (codes "result") d) (get (codes "error") d) refl refl
  where
    by : (r e : Option Data) → get (codes "result") d ≡ r → get (codes "error") d ≡ e → Decided d
    by (Some r) e result error = replied d is (inl (subst (λ (o : Option Data). IsSome o) (sym result) refl))
    by None (Some e) result error = replied d is (inr (subst (λ (o : Option Data). IsSome o) (sym error) refl))
    by None None result error = inr (none_of d
        (λ method ps calls. let no : None ≡ Some (string method) = sym is ∙ calls.0 in absurd cc)
        (λ _ some _. elim some [
          | inl r ↦ no_some (get (codes "result") d) result r
          | inr e ↦ no_some (get (codes "error") d) error e
        ]))

spells_or_none : (d : Data) → Decided d
spells_or_none d = by (get (codes "method") d) refl
  where
    by : (o : Option Data) → get (codes "method") d ≡ o → Decided d
    by None e = without_method d e
    by (Some (string s)) e = with_method d s e
    by (Some null) e = other_method d null e (λ s no. cc)
    by (Some (boolean b)) e = other_method d (boolean b) e (λ s no. cc)
    by (Some (number n)) e = other_method d (number n) e (λ s no. cc)
    by (Some (array ds)) e = other_method d (array ds) e (λ s no. cc)
    by (Some (object ms)) e = other_method d (object ms) e (λ s no. cc)

pub says_or_none : (text : List ℕ) → ((m : Message) × Says text m) ⊎ SaysNothing text
says_or_none text = by (is_utf8 text) (read text) refl refl
  where
    by : (b : Bool) (o : Option Data) → is_utf8 text ≡ b → read text ≡ o → ((m : Message) × Says text m) ⊎ SaysNothing text
    by false o utf8 is = inr (λ m says. absurd (let no : false ≡ true = sym utf8 ∙ is_utf8-from_IsUtf8 text says.1.0 in cc))
    by true None utf8 is = inr (λ m says. absurd (let no : None ≡ Some says.0 = sym is ∙ says.1.1 in cc))
    by true (Some d) utf8 is = elim (spells_or_none d) [
      | inl spells ↦ inl (spells.0, (d, (IsUtf8-from_is_utf8 text utf8, is), spells.1))
      | inr none ↦ inr (λ m says.
          let same : says.0 ≡ d = let some : Some says.0 ≡ Some d = sym says.1.1 ∙ is in cc in
          none m (subst (λ (x : Data). Spells x m) same says.2))
    ]
