-- Words that spell an IP address and a port.
use Rattle.std.proofs.Common.{◌≡◌, Bool, true, false, true≢false}
use Rattle.std.specs.Net.Addr.{MatchIp, IsLoopbackV4, IsLoopbackV6}
use Rattle.std.specs.Net.Grammar.{IsSocketText}
use Rattle.std.specs.Net.Socket.{socket_ip}
use Rattle.std.specs.declared.net.socket_addr.SocketAddr.{SocketAddr}
use Rattle.ovs_address.specs.Address.{Text, SpellsIp}

-- whatever address is allowed, the word is its text
pub is_text : (beyond : Bool) (word : Text) (address : SocketAddr) → SpellsIp beyond word address → IsSocketText word address
is_text true word address spells = spells
is_text false word address spells = spells.0

-- where only loopback is, it is one of these
pub is_of_loopback : (beyond : Bool) (word : Text) (address : SocketAddr) → beyond ≡ false → SpellsIp beyond word address
    → MatchIp (socket_ip address) IsLoopbackV4 IsLoopbackV6
is_of_loopback true word address is spells = absurd (true≢false is)
is_of_loopback false word address is spells = spells.1
