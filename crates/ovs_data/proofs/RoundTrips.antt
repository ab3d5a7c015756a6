-- What is written of a datum stands for it.
use Rattle.std.proofs.Common.{◌≡◌, pos, negsuc, List, [], ◌∷◌, ◌^◌, true, Some, refl}
use Rattle.std.proofs.lemmas.Bool.{lt-ltb}
use Rattle.serde_json.specs.Data.{unsigned, negative}
use Rattle.ovs_data.specs.declared.atom.Atom.{Atom}
use Rattle.ovs_data.specs.declared.atom.Atom.TheVariants.{Integer, Boolean, String, Uuid}
use Rattle.ovs_data.specs.declared.datum.pairs.Pair.{Pair}
use Rattle.ovs_data.specs.declared.datum.Datum.{Datum}
use Rattle.ovs_data.specs.declared.datum.Datum.TheVariants.{Set, Map}
use Rattle.ovs_json.specs.Items.{SpellsEach}
use Rattle.ovs_data.specs.Atom.{atom_cmp, atom_eq, IsBounded}
use Rattle.ovs_data.specs.Ascending.{IsAscending}
use Rattle.ovs_data.specs.Datum.{contains, value_at, IsOrdered, AreBounded}
use Rattle.ovs_data.specs.Id.{id_text}
use Rattle.ovs_data.specs.RoundTrip.{WhatIsWrittenReadsBack}
use Rattle.ovs_data.specs.Spelling.{SpellsValue, SpellsBoth, IsWritten}
use Rattle.ovs_data.specs.Writing.{atom_json, atoms_json, pairs_json, datum_json}
use Rattle.ovs_data.proofs.Differences.{atom_eq-self}
use Rattle.ovs_data.proofs.Ids.{id_reads_back}
use Rattle.ovs_data.proofs.Spellings.{datum_only}
use Rattle.ovs_data.proofs.Writings.{or_right, later, spelled_as_written}

value_written : (x : Atom) → IsBounded x → SpellsValue (atom_json x) x
value_written (Integer (pos n)) low = (unsigned n, refl, rw (lt-ltb n (2 ^ 63) low) refl)
value_written (Integer (negsuc n)) low = (negative (negsuc n), refl, refl)
value_written (Boolean b) low = refl
value_written (String s) low = refl
value_written (Uuid id) low = (id_text id, refl, id_reads_back id low)

atoms_written : (xs : List Atom) → ((q : Atom) → contains q xs ≡ true → IsBounded q) → SpellsEach SpellsValue (atoms_json xs) xs
atoms_written [] low = tt
atoms_written (x ∷ xs) low =
    (value_written x (low x (rw (atom_eq-self x) refl)), atoms_written xs (λ q e. low q (or_right (atom_eq q x) (contains q xs) e)))

pairs_written : (ps : List Pair) → IsAscending atom_cmp (λ (p : Pair). p.key) ps → ((k v : Atom) → value_at k ps ≡ Some v → IsBounded k × IsBounded v) → SpellsEach SpellsBoth (pairs_json ps) ps
pairs_written [] a low = tt
pairs_written (p ∷ ps) a low =
    let own = low p.key p.value (rw (atom_eq-self p.key) refl) in
    ((atom_json p.key, atom_json p.value, refl, value_written p.key own.0, value_written p.value own.1), pairs_written ps a.1 (λ q w e. low q w (later p ps a.0 q w e)))

written : (x : Datum) → IsOrdered x → AreBounded x → IsWritten (datum_json x) x
written (Set []) a low = refl
written (Set (x ∷ [])) a low = value_written x (low x (rw (atom_eq-self x) refl))
written (Set (x ∷ y ∷ ys)) a low = (atoms_json (x ∷ y ∷ ys), refl, atoms_written (x ∷ y ∷ ys) low)
written (Map ps) a low = (pairs_json ps, refl, pairs_written ps a low)

pub what_is_written_reads_back : WhatIsWrittenReadsBack
what_is_written_reads_back c x of low =
    let spelled = spelled_as_written (datum_json x) x (written x of.order low) c of in
    (spelled, datum_only c (datum_json x) x spelled)
