use Rattle.std.proofs.Common.{refl}
use Rattle.ovs_data.proofs.Including.{excludes_set, excludes_map, elements_decide}
use Rattle.ovs_data.proofs.datum.Datum.excludes.Goals as goal

pub returns-in-Set : goal.returns-in-Set
returns-in-Set c =
    record {
      excludes = rw (c.in-Set.is, c.has_none.ensures.value, c.as_slice.ensures.all) (excludes_set c.args.self.now c.in-Set.atoms);
      value = rw (c.in-Set.is, c.has_none.ensures.value, c.as_slice.ensures.all) (elements_decide _);
    }

pub returns-in-Map : goal.returns-in-Map
returns-in-Map c =
    record {
      excludes = rw (c.in-Map.is, c.has_no_pair.ensures.value, c.as_slice-in-Map.ensures.all) (excludes_map c.args.self.now c.in-Map.pairs c.as_slice-in-Map.ensures.ascending);
      value = rw (c.in-Map.is, c.has_no_pair.ensures.value, c.as_slice-in-Map.ensures.all) refl;
    }
