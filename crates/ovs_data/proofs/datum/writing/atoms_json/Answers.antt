use Rattle.ovs_data.specs.Spelling.{SpellsValue}
use Rattle.ovs_data.specs.Writing.{atom_json}
use Rattle.ovs_data.proofs.Writings.{one_more}
use Rattle.ovs_data.proofs.datum.writing.atoms_json.Goals as goal

pub loop-atom-preserved : goal.loop-atom-preserved
loop-atom-preserved c =
    let more = one_more atom_json SpellsValue c.loop-atom.items.items c.args.atoms.now c.loop-atom.atom-index c.in_ok-atom_json.field-0 c.atom-item.result
    c.loop-atom-test.true c.atom-item.is c.in_ok-atom_json.ensures.value c.in_ok-atom_json.ensures.spelled c.loop-atom.invariant.written c.loop-atom.invariant.spelled in
    record { written = rw c.in_ok-push.ensures.items more.0; spelled = rw c.in_ok-push.ensures.items more.1 }
