use Rattle.std.proofs.Common.{◌≡◌, ◌<◌, ◌^◌, Some, Result, Ok, Err, subst}
use Rattle.std.specs.Prelude.{OnOk}
use Rattle.ovs_types.specs.Id.{id_text, read_id}
use Rattle.ovs_rows.proofs.change.writing.put_update.Goals as goal

on_ok : {T E : Type 0} (r : Result T E) (P : Type 0) → P → OnOk r P
on_ok (Ok x) P p = p
on_ok (Err e) P p = tt

pub returns-clause-spelled : goal.returns-clause-spelled
returns-clause-spelled c =
    let here = subst (λ id. (id < 2 ^ 128) × (read_id (id_text id) ≡ Some id)) c.from.ensures c.in_ok-name.ensures.spelled in
    on_ok c.put.result _ (λ same. (here.0, here.1, c.in_ok-update.ensures.spelled))
