use Rattle.std.proofs.Common.{◌≡◌, ℕ, List, Result, Ok, Err, true, ap, ◌∙◌}
use Rattle.std.specs.Prelude.{◌≢◌, OnOk, OnErr}
use Rattle.std.specs.BTreeSet.{BTreeSet, Updates, IsUnchanged}
use Rattle.std.specs.Cmp.Lexicographic.{slice_cmp}
use Rattle.std.specs.Ordering.{nat_cmp}
use Rattle.ovs_locks.proofs.Tables.{apart}
use Rattle.ovs_lock_desk.specs.DueNames.{is_among}
use Rattle.ovs_lock_desk.proofs.due_names.put.Goals as goal

others_stay : {T E : Type 0} (r : Result T E) (name : List ℕ) (old new : BTreeSet (List ℕ)) → OnOk r (Updates (slice_cmp nat_cmp) old new name true) → OnErr r (IsUnchanged old new)
    → (other : List ℕ) → other ≢ name → is_among other new.keys ≡ is_among other old.keys
others_stay (Ok x) name old new updates unchanged other ne = updates.2 other (apart name other ne)
others_stay (Err e) name old new updates unchanged other ne = ap (is_among other) unchanged

pub returns-in-Ok-clause-others : goal.returns-in-Ok-clause-others
returns-in-Ok-clause-others c =
    λ other ne. others_stay c.insert.result c.in-Ok.name c.args.names.now c.insert.new.self c.insert.ensures.updates c.insert.ensures.err other (λ same. ne (same ∙ c.in-Ok.ensures.equal))
