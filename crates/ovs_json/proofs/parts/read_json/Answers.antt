use Rattle.std.proofs.Common.{◌≡◌, true, false}
use Rattle.serde_json.specs.View.{view}
use Rattle.ovs_json.proofs.Found.{is_json, not_json}
use Rattle.ovs_json.proofs.parts.read_json.Goals as goal

pub returns-in-Ok : goal.returns-in-Ok
returns-in-Ok c = record { value = is_json c.args.bytes.now (view c.in-Ok.value) c.in-Ok.ensures.ok.0 c.in-Ok.ensures.ok.1 }

pub returns-else-is_memory : goal.returns-else-is_memory
returns-else-is_memory c =
    record { value = not_json c.args.bytes.now (c.in-Err.ensures.err (λ m. let w : false ≡ true = rw c.if-is_memory.false at (c.is_memory.ensures.1 m) in cc)) }
