-- What a change of one name of one session makes of all.
use Rattle.std.proofs.Common.{◌≡◌, ℕ, List, [], Bool, false, Option, Some, None, refl, sym, ap, subst, ◌∙◌}
use Rattle.std.specs.Prelude.{◌≢◌, unwrap_or, option_map, option_and_then}
use Rattle.std.specs.Ordering.{nat_cmp, is_eq}
use Rattle.std.specs.Cmp.Lexicographic.{slice_cmp}
use Rattle.std.specs.FinMap.{nat_cmp-IsAntisymmetric}
use Rattle.std.specs.BTreeMap as tree
use Rattle.std.specs.BTreeMap.{BTreeMap, is_at}
use Rattle.std.specs.List.Sorted.{IsStrictlySortedBy}
use Rattle.std.specs.Map.{lookup, set_value}
use Rattle.std.proofs.lemmas.Map.Steps.{set_value_same}
use Rattle.ovs_locks.specs.ByName.{Ascends}
use Rattle.ovs_locks.specs.BySession.{Names, Sessions, NamesNote, Notes, names_at, mark_in, mark_at}
use Rattle.ovs_locks.proofs.Tables.{tied, by_test, apart, there}

pub other_session : (session other : ℕ) → other ≢ session → is_at (nat_cmp session) other ≡ false
other_session session other n = by_test (is_eq (nat_cmp session other)) (λ e. n (sym (nat_cmp-IsAntisymmetric session other (tied (nat_cmp session other) e))))

-- a name was set or taken out
pub updated : (name : List ℕ) (m n : BTreeMap (List ℕ) Bool) (mark : Option Bool) → tree.Updates (slice_cmp nat_cmp) m n name mark → NamesNote m.entries name mark n.entries
updated name m n mark u = record { at = u.1; others = λ other ne. u.2 other (apart name other ne) }

-- a mark was written through a loan
pub mark_written : (name : List ℕ) (m n : BTreeMap (List ℕ) Bool) (was owed : Bool) → Some was ≡ mark_in name m.entries
    → tree.WritesThrough (slice_cmp nat_cmp) (slice_cmp nat_cmp name) m owed n → NamesNote m.entries name (option_map (λ _. owed) (mark_in name m.entries)) n.entries
mark_written name m n was owed is w =
    subst (λ (o : Option Bool). NamesNote m.entries name (option_map (λ _. owed) o) n.entries) is
    (updated name m n (Some owed) (w.3 (there (mark_in name m.entries) was is)))

-- nothing is written where the name isn't there
pub mark_absent : (name : List ℕ) (names new : Names) (owed : Bool) → None ≡ mark_in name names → new ≡ names → NamesNote names name (option_map (λ _. owed) (mark_in name names)) new
mark_absent name names new owed none same =
    subst (λ (ns : Names). NamesNote names name (option_map (λ _. owed) (mark_in name names)) ns) (sym same)
    (record { at = sym none ∙ ap (option_map (λ _. owed)) none; others = λ other ne. refl })

session_updated : (session : ℕ) (name : List ℕ) (m n : BTreeMap ℕ Names) (names : Names) (mark : Option Bool) → tree.Updates nat_cmp m n session (Some names)
    → NamesNote (names_at session m.entries) name mark names → Notes m.entries session name mark n.entries
session_updated session name m n names mark u note =
    let here : names_at session n.entries ≡ names = ap (λ (o : Option Names). unwrap_or o []) u.1 in
    record {
      at = ap (mark_in name) here ∙ note.at;
      others = λ other ne. ap (mark_in other) here ∙ note.others other ne;
      sessions = λ other ne. ap (λ (o : Option Names). unwrap_or o []) (u.2 other (other_session session other ne));
    }

-- the names of a session that is there were written
pub session_written : (session : ℕ) (name : List ℕ) (m n : BTreeMap ℕ Names) (was names : Names) (mark : Option Bool) → Some was ≡ tree.get_by (nat_cmp session) m
    → tree.WritesThrough nat_cmp (nat_cmp session) m names n → NamesNote was name mark names → Notes m.entries session name mark n.entries
session_written session name m n was names mark is w note =
    session_updated session name m n names mark (w.3 (there (tree.get_by (nat_cmp session) m) was is))
    (subst (λ (ns : Names). NamesNote ns name mark names) (ap (λ (o : Option Names). unwrap_or o []) is) note)

-- a session that isn't there was put
pub session_put : (session : ℕ) (name : List ℕ) (m n : BTreeMap ℕ Names) (names : Names) (mark : Option Bool) → None ≡ tree.get_by (nat_cmp session) m
    → tree.Updates nat_cmp m n session (Some names) → NamesNote [] name mark names → Notes m.entries session name mark n.entries
session_put session name m n names mark none u note =
    session_updated session name m n names mark u (subst (λ (ns : Names). NamesNote ns name mark names) (ap (λ (o : Option Names). unwrap_or o []) none) note)

-- nothing changes where the session isn't there
pub session_absent : (session : ℕ) (name : List ℕ) (old new : Sessions) (mark : Option Bool) → names_at session old ≡ [] → new ≡ old
    → Notes old session name (option_and_then (λ _. mark) (mark_at session name old)) new
session_absent session name old new mark none same =
    subst (λ (s : Sessions). Notes old session name (option_and_then (λ _. mark) (mark_at session name old)) s) (sym same)
    (record {
      at = ap (mark_in name) none ∙ sym (ap (λ (ns : Names). option_and_then (λ _. mark) (mark_in name ns)) none);
      others = λ other ne. refl;
      sessions = λ other ne. refl;
    })

-- a session that isn't there has none, in order
pub none_ascend : (session : ℕ) (s : Sessions) → None ≡ lookup (is_at (nat_cmp session)) s → Ascends (names_at session s)
unfolding IsStrictlySortedBy
none_ascend session s none = subst Ascends (ap (λ (o : Option Names). unwrap_or o []) none) tt

-- nothing changes where the names are written back as they were
pub session_unwritten : (session : ℕ) (m n : BTreeMap ℕ Names) (was names : Names) → Some was ≡ tree.get_by (nat_cmp session) m
    → tree.WritesThrough nat_cmp (nat_cmp session) m names n → names ≡ was → n.entries ≡ m.entries
session_unwritten session m n was names is w same =
    w.0 ∙ ap (set_value (is_at (nat_cmp session)) m.entries) same ∙ set_value_same (is_at (nat_cmp session)) m.entries was (sym is)

-- a session that has none was taken out
pub emptied : (old written new : Sessions) (session : ℕ) (name : List ℕ) (mark : Option Bool) → Notes old session name mark written
    → ((other : ℕ) → names_at other new ≡ names_at other written) → Notes old session name mark new
emptied old written new session name mark note same = record {
  at = ap (mark_in name) (same session) ∙ note.at;
  others = λ other ne. ap (mark_in other) (same session) ∙ note.others other ne;
  sessions = λ other ne. same other ∙ note.sessions other ne;
}
