use Rattle.std.proofs.Common.{ap, ◌∙◌}
use Rattle.serde_json.specs.View.{view}
use Rattle.ovs_json.specs.FirstFault.{items_of}
use Rattle.ovs_json.proofs.FaultOrder.{goes_on}
use Rattle.ovs_types.specs.SchemaFaults.{rank}
use Rattle.ovs_types.proofs.schema.reading.read_members.Goals as goal

pub loop-name-preserved : goal.loop-name-preserved
loop-name-preserved g c =
    goes_on rank g.M.SchemaMember.read (items_of c.loop-name.so_far) (items_of c.in_ok-so_far.so_far) c.in_ok-read.field-0 c.in-Some.name.now c.in-Some.value.now c.next.new.self _
    (c.in_ok-read.ensures.exact ∙ ap (λ s. g.M.SchemaMember.read s (view c.in-Some.value.now)) c.as_str.ensures.value)
    c.in_ok-so_far.ensures.longer
    (rw c.in-Some.ensures.steps at c.loop-name.invariant)
