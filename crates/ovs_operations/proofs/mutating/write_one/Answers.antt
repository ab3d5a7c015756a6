use Rattle.std.proofs.Common.{Ok, Err, refl, sym, subst, ap, ◌∙◌, length}
use Rattle.std.proofs.lemmas.Option.{slice_get_read}
use Rattle.ovs_rows.specs.Row.{AreDataOf}
use Rattle.ovs_operations.proofs.Mutated.{datum_at, value_at, set_kept, mutated_kept, written}
use Rattle.ovs_operations.proofs.mutating.write_one.Goals as goal

pub mutated-requires-clause-old : goal.mutated-requires-clause-old
mutated-requires-clause-old c =
    let cs = c.args.columns.now in
    let i = c.args.mutation.now.column in
    let at = slice_get_read cs (length cs) i c.in-Some.named.now refl c.in-Some.ensures.lookup.3.0 c.in-Some.ensures.lookup.1 in
    let there = slice_get_read c.as_slice.result.now (length c.as_slice.result.now) i c.in-Some-get.old.now refl c.in-Some-get.ensures.lookup.3.0 c.in-Some-get.ensures.lookup.1 in
    datum_at cs c.args.row i c.in-Some.named.now c.in-Some-get.old.now c.requires.row at (rw c.as_slice.ensures.value at there)

pub mutated-requires-clause-value : goal.mutated-requires-clause-value
mutated-requires-clause-value c =
    let cs = c.args.columns.now in
    let i = c.args.mutation.now.column in
    let at = slice_get_read cs (length cs) i c.in-Some.named.now refl c.in-Some.ensures.lookup.3.0 c.in-Some.ensures.lookup.1 in
    value_at cs c.args.mutation.now c.in-Some.named.now c.requires.mutation at

pub returns-in-Ok : goal.returns-in-Ok
returns-in-Ok c =
    let cs = c.args.columns.now in
    let m = c.args.mutation.now in
    let named = c.in-Some.named.now in
    let old = c.in-Some-get.old.now in
    let at = slice_get_read cs (length cs) m.column named refl c.in-Some.ensures.lookup.3.0 c.in-Some.ensures.lookup.1 in
    let there = rw c.as_slice.ensures.value at (slice_get_read c.as_slice.result.now (length c.as_slice.result.now) m.column old refl c.in-Some-get.ensures.lookup.3.0 c.in-Some-get.ensures.lookup.1) in
    let made = rw c.in-Ok.is at c.in_ok-new.ensures.exact in
    let new = mutated_kept named.column m.mutator old m.value c.in-Ok.new (datum_at cs c.args.row m.column named old c.requires.row at there) (value_at cs m named c.requires.mutation at) (sym made) in
    record {
      exact = ap Ok c.with.ensures.value ∙ written cs c.args.row m named old (Ok c.in-Ok.new) at there made;
      kept = subst (AreDataOf cs) (sym c.with.ensures.value) (set_kept cs c.args.row m.column named c.in-Ok.new c.requires.row at new);
    }

pub returns-in-Err-clause-exact : goal.returns-in-Err-clause-exact
returns-in-Err-clause-exact c =
    let cs = c.args.columns.now in
    let m = c.args.mutation.now in
    let named = c.in-Some.named.now in
    let old = c.in-Some-get.old.now in
    let at = slice_get_read cs (length cs) m.column named refl c.in-Some.ensures.lookup.3.0 c.in-Some.ensures.lookup.1 in
    let there = rw c.as_slice.ensures.value at (slice_get_read c.as_slice.result.now (length c.as_slice.result.now) m.column old refl c.in-Some-get.ensures.lookup.3.0 c.in-Some-get.ensures.lookup.1) in
    written cs c.args.row m named old (Err c.in-Err.fault) at there (rw c.in-Err.is at c.in_ok-new.ensures.exact)
