use Rattle.std.proofs.Common.{refl}
use Rattle.ovs_data.proofs.Including.{includes_set, includes_map, elements_decide}
use Rattle.ovs_data.proofs.datum.Datum.includes.Goals as goal

pub returns-in-Set : goal.returns-in-Set
returns-in-Set c =
    record {
      includes = rw (c.in-Set.is, c.has_all.ensures.value, c.as_slice.ensures.all) (includes_set c.args.self.now c.in-Set.atoms);
      value = rw (c.in-Set.is, c.has_all.ensures.value, c.as_slice.ensures.all) (elements_decide _);
    }

pub returns-in-Map : goal.returns-in-Map
returns-in-Map c =
    record {
      includes = rw (c.in-Map.is, c.has_all_pairs.ensures.value, c.as_slice-in-Map.ensures.all) (includes_map c.args.self.now c.in-Map.pairs c.as_slice-in-Map.ensures.ascending);
      value = rw (c.in-Map.is, c.has_all_pairs.ensures.value, c.as_slice-in-Map.ensures.all) refl;
    }
