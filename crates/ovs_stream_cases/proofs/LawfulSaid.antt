-- What a source says is lawful.
use Rattle.std.proofs.Common.{◌≡◌, ℕ, zero, suc, Bool, true, false, List, [], ◌∷◌, Option, None, Some, Ok, drop, map, refl, sym, ◌∙◌, ap, subst, inl}
use Rattle.std.specs.Prelude.{slice_get, option_and_then, Result, Err, OnOk}
use Rattle.std.specs.List.{AllByRecursion}
use Rattle.serde_json.specs.Data.{Data, object, no_members}
use Rattle.ovs_json.proofs.SameLemmas.{same_itself}
use Rattle.ovs_types.specs.Id.{id_text, read_id}
use Rattle.ovs_types.specs.Schema.{SchemaValue}
use Rattle.ovs_types.specs.SchemaReading.{read_description}
use Rattle.ovs_types.specs.contracts.schema.Description as description_row
use Rattle.ovs_types.specs.declared.schema.Description.{Description}
use Rattle.ovs_types.specs.declared.schema.Table.{Table}
use Rattle.ovs_types.specs.declared.schema.error.SchemaError.{SchemaError}
use Rattle.ovs_rows.specs.Change.{Actions}
use Rattle.ovs_rows.specs.ChangeReading.{read_change}
use Rattle.ovs_rows.specs.ChangeWriting.{change_json}
use Rattle.ovs_links.specs.Chains.{start_of}
use Rattle.ovs_links.specs.declared.link.Link.{Link}
use Rattle.ovs_upstream.specs.Hearing.{says}
use Rattle.ovs_upstream.specs.Talk.{Talk, Schema, Reached, Update, answer_said, update_said, talk_of}
use Rattle.ovs_upstream.specs.Lawful.{IsAt, LawfulFrom, LawfulAsked, IsLawful}
use Rattle.ovs_stream_cases.specs.Said.{schema_reply, place_reply, update_notice, IsTold, told_from, said}

-- ---- what the messages say

schema_says : (schema : SchemaValue) → talk_of (schema_reply schema) ≡ Schema schema.json
schema_says schema = refl

place_says : (known : Bool) (id : ℕ) → read_id (id_text id) ≡ Some id → talk_of (place_reply known id) ≡ Reached known id (object no_members)
place_says known id back = ap (λ (o : Option ℕ). answer_said (option_and_then (λ (i : ℕ). Some (known, i, object no_members)) o)) back

update_says : (tables : List Table) (l : Link) → read_id (id_text l.id) ≡ Some l.id → talk_of (update_notice tables l) ≡ Update l.id (change_json tables l.change)
update_says tables l back = ap (λ (o : Option ℕ). update_said (option_and_then (λ (i : ℕ). Some (i, change_json tables l.change)) o)) back

-- ---- the updates

next_at : (ls rest : List Link) (l : Link) (k : ℕ) → drop k ls ≡ l ∷ rest → (slice_get ls k ≡ Some l) × (drop (suc k) ls ≡ rest)
next_at [] rest l zero e = absurd cc
next_at [] rest l (suc k) e = absurd cc
next_at (m ∷ ms) rest l zero e = (cc, cc)
next_at (m ∷ ms) rest l (suc k) e = next_at ms rest l k e

pub updates_lawful : (tables : List Table) (ls rest : List Link) (k : ℕ) → drop k ls ≡ rest → AllByRecursion (IsTold tables) rest
    → LawfulFrom tables ls k (map talk_of (map (update_notice tables) rest))
updates_lawful tables ls [] k e told = tt
updates_lawful tables ls (l ∷ rest) k e told =
    let at = next_at ls rest l k e in
    subst (λ (t : Talk). LawfulFrom tables ls k (t ∷ map talk_of (map (update_notice tables) rest))) (sym (update_says tables l told.0.id))
    (record { link = l; found = at.0; id_is = refl; spells = told.0.change }, updates_lawful tables ls rest (suc k) at.1 told.1)

-- ---- a session

pub lawful_known : (schema : SchemaValue) (ls : List Link) (asked k : ℕ) → IsAt ls asked k → read_id (id_text asked) ≡ Some asked
    → AllByRecursion (IsTold schema.description.tables) (drop k ls) → LawfulAsked schema.description.tables ls asked (map talk_of (told_from schema ls asked (Some k)))
lawful_known schema ls asked k at back told =
    let tables = schema.description.tables in
    subst (λ (t : Talk). LawfulAsked tables ls asked (t ∷ map talk_of (map (update_notice tables) (drop k ls)))) (sym (place_says true asked back))
    (k, inl (refl, refl, at), updates_lawful tables ls (drop k ls) k refl told)

pub lawful_unknown : (schema : SchemaValue) (ls : List Link) (asked : ℕ) → start_of ls ≡ 0 → read_id (id_text 0) ≡ Some 0
    → AllByRecursion (IsTold schema.description.tables) ls → LawfulAsked schema.description.tables ls asked (map talk_of (told_from schema ls asked None))
lawful_unknown schema ls asked start back told =
    let tables = schema.description.tables in
    subst (λ (t : Talk). LawfulAsked tables ls asked (t ∷ map talk_of (map (update_notice tables) ls))) (sym (place_says false 0 back))
    (0, inl (sym start, refl, refl), updates_lawful tables ls ls 0 refl told)

pub lawful_said : (schema : SchemaValue) (ls : List Link) (asked : ℕ) (place : Option ℕ) → read_description schema.json ≡ Ok schema.description
    → LawfulAsked schema.description.tables ls asked (map talk_of (told_from schema ls asked place)) → IsLawful schema.description ls asked (said schema ls asked place)
lawful_said schema ls asked place back lawful =
    (subst (λ (r : Result Description SchemaError). says schema.description r ≡ true) (sym back) (same_itself description_row.the_row.coded schema.description), lawful)

-- ---- what is written of a link

pub told_by : (tables : List Table) (l : Link) (id : ℕ) (text : List ℕ) (change : Actions) (d : Data) → id ≡ l.id → text ≡ id_text id → read_id text ≡ Some id
    → change ≡ l.change → d ≡ change_json tables change → read_change tables d ≡ Ok change → IsTold tables l
told_by tables l id text change d same is back kept written reads = record {
  id = subst (λ (i : ℕ). read_id (id_text i) ≡ Some i) same (ap read_id (sym is) ∙ back);
  change = subst (λ (a : Actions). read_change tables (change_json tables a) ≡ Ok a) kept (ap (read_change tables) (sym written) ∙ reads);
}

-- ---- by what a call gave

pub on_ok : {T E P Q : Type 0} (r : Result T E) → (P → Q) → OnOk r P → OnOk r Q
on_ok (Ok x) f p = f p
on_ok (Err e) f p = tt
