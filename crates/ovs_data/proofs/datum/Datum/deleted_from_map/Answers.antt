use Rattle.std.proofs.Common.{sym, subst}
use Rattle.std.specs.Prelude.{not}
use Rattle.ovs_data.specs.Ascending.{IsAscending}
use Rattle.ovs_data.specs.Atom.{atom_cmp}
use Rattle.ovs_data.specs.Mutation.{deletes}
use Rattle.ovs_data.proofs.Mutations.{ascending_left}
use Rattle.ovs_data.proofs.datum.Datum.deleted_from_map.Goals as goal

pub new-requires : goal.new-requires
new-requires c = record {
  ascending = ascending_left atom_cmp (λ p. p.key) (λ q. not (deletes c.args.self.now q)) c.loop-pair.kept.items c.as_slice-pair-items.result.now c.loop-pair.pair-index c.loop-pair-test.false (subst (IsAscending atom_cmp (λ p. p.key)) (sym c.as_slice-pair-items.ensures.all) c.as_slice-pair-items.ensures.ascending) c.loop-pair.invariant;
}
