use Rattle.std.proofs.Common.{◌≡◌, ◌∙◌, subst, sym, true≢false}
use Rattle.std.proofs.NetLemmas.Theorems.{IsSocketText_unique}
use Rattle.std.specs.Net.Addr.{MatchIp, IsLoopbackV4, IsLoopbackV6}
use Rattle.std.specs.Net.Socket.{socket_ip}
use Rattle.std.specs.declared.net.socket_addr.SocketAddr.{SocketAddr}
use Rattle.ovs_address.proofs.Ips.{is_of_loopback, is_text}
use Rattle.ovs_address.proofs.address.read_ip.Goals as goal

pub returns-else-is_loopback : goal.returns-else-is_loopback
returns-else-is_loopback c = record {
  value = λ a spells.
      let same : a ≡ c.in-Ok.address = IsSocketText_unique c.args.word.now a c.in-Ok.address (is_text c.args.beyond_loopback c.args.word.now a spells) c.in-Ok.ensures.value in
      let loops = subst (λ (x : SocketAddr). MatchIp (socket_ip x) IsLoopbackV4 IsLoopbackV6) same
      (is_of_loopback c.args.beyond_loopback c.args.word.now a c.if-beyond_loopback.false spells) in
      let found = c.is_loopback.ensures.1 (subst (λ ip. MatchIp ip IsLoopbackV4 IsLoopbackV6) (sym c.ip.ensures) loops) in
      true≢false (sym found ∙ c.if-is_loopback.false);
}
