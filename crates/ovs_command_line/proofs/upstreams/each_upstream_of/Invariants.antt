use Rattle.std.proofs.Common.{◌≡◌, ◌≤◌, length, take}
use Rattle.std.specs.List.{AllZip}
use Rattle.std.specs.Prelude.{vec_len, vec_capacity}
use Rattle.ovs_command_line.specs.Values.{SpellsAddresses}
use Rattle.ovs_command_line.proofs.Addresses.{texts_of}
use Rattle.ovs_command_line.proofs.upstreams.each_upstream_of.Given as goal

-- the words before this one are read, and there is room for those that are left
abbrev pub invariant-loop-word : goal.invariant-loop-word
invariant-loop-word l =
    record {
      each : AllZip (λ word addresses. SpellsAddresses l.fn.beyond_loopback word addresses.items) (texts_of (take l.word-index l.fn.words)) l.upstreams.items;
      room : length l.fn.words ≤ vec_capacity l.upstreams;
      so_far : vec_len l.upstreams ≡ l.word-index;
    }
