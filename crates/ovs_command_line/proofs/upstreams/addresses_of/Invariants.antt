use Rattle.std.proofs.Common.{◌≡◌, ◌≤◌, length, take}
use Rattle.std.specs.List.{AllZip}
use Rattle.std.specs.Prelude.{vec_len, vec_capacity}
use Rattle.ovs_address.specs.Address.{SpellsAddress}
use Rattle.ovs_command_line.proofs.Addresses.{texts_of}
use Rattle.ovs_command_line.proofs.upstreams.addresses_of.Given as goal

-- the parts before this one are read, and there is room for those that are left
abbrev pub invariant-loop-part : goal.invariant-loop-part
invariant-loop-part l =
    record {
      each : AllZip (SpellsAddress l.fn.beyond_loopback) (texts_of (take l.part-index l.fn.parts)) l.addresses.items;
      room : length l.fn.parts ≤ vec_capacity l.addresses;
      so_far : vec_len l.addresses ≡ l.part-index;
    }
