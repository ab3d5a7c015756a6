use Rattle.std.proofs.Common.{arith}
use Rattle.ovs_address.specs.Address.{SpellsAddress}
use Rattle.ovs_command_line.proofs.Addresses.{one_more}
use Rattle.ovs_command_line.proofs.upstreams.addresses_of.Goals as goal

pub loop-part-preserved : goal.loop-part-preserved
loop-part-preserved c = record {
  each = one_more (SpellsAddress c.args.beyond_loopback) c.args.parts.now c.loop-part.part-index _ c.loop-part.addresses.items _ c.in_ok-address_of.field-0 c.loop-part-test.true
      c.loop-part.invariant.each c.push_reserved.ensures.items c.in_ok-address_of.ensures.value;
  room = omega (arith, c.push_reserved.ensures.capacity, c.loop-part.invariant.room);
  so_far = omega (arith, c.push_reserved.ensures.len, c.loop-part.invariant.so_far);
}
