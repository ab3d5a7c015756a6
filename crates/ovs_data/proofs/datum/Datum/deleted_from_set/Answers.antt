use Rattle.std.proofs.lemmas.Grind.{common_steps}
use Rattle.std.proofs.Common.{arith, sym, subst}
use Rattle.std.specs.Prelude.{not}
use Rattle.ovs_data.specs.Ascending.{IsAscending}
use Rattle.ovs_data.specs.Atom.{atom_cmp}
use Rattle.ovs_data.specs.Datum.{has_element}
use Rattle.ovs_data.proofs.Mutations.{ascending_left}
use Rattle.ovs_data.proofs.datum.Datum.deleted_from_set.Goals as goal

pub new-requires : goal.new-requires
new-requires c = record {
  ascending = ascending_left atom_cmp (λ x. x) (λ x. not (has_element x c.args.self.now)) c.loop-atom.kept.items c.as_slice-atom-items.result.now c.loop-atom.atom-index c.loop-atom-test.false (subst (IsAscending atom_cmp (λ x. x)) (sym c.as_slice-atom-items.ensures.all) c.as_slice-atom-items.ensures.ascending) c.loop-atom.invariant;
}

pub loop-atom-preserved : goal.loop-atom-preserved
loop-atom-preserved c = grind (arith, common_steps)
