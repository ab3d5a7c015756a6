use Rattle.std.proofs.Common.{arith}
use Rattle.ovs_command_line.specs.Values.{SpellsAddresses}
use Rattle.ovs_command_line.proofs.Addresses.{one_more}
use Rattle.ovs_command_line.proofs.upstreams.each_upstream_of.Goals as goal

pub loop-word-preserved : goal.loop-word-preserved
loop-word-preserved c = record {
  each = one_more (λ word addresses. SpellsAddresses c.args.beyond_loopback word addresses.items) c.args.words.now c.loop-word.word-index _ c.loop-word.upstreams.items _ c.in_ok-upstream_of.field-0 c.loop-word-test.true
      c.loop-word.invariant.each c.push_reserved.ensures.items c.in_ok-upstream_of.ensures.value;
  room = omega (arith, c.push_reserved.ensures.capacity, c.loop-word.invariant.room);
  so_far = omega (arith, c.push_reserved.ensures.len, c.loop-word.invariant.so_far);
}
