-- Which addresses other machines can reach: there the nodes need a key.
use Rattle.std.specs.Prelude.{◌≢◌, ◌⊎◌, []}
use Rattle.std.specs.Net.Addr.{MatchIp, IsLoopbackV4, IsLoopbackV6}
use Rattle.std.specs.Net.Socket.{socket_ip}
use Rattle.std.specs.declared.net.ip_addr.IpAddr.{IpAddr}
use Rattle.std.specs.declared.net.socket_addr.SocketAddr.{SocketAddr}
use Rattle.lk_auth.specs.Seals.{key_list}
use Rattle.lk_auth.specs.declared.seals.Seals.{Seals}

-- a loopback address, which no other machine can reach
abbrev pub IsOfThisMachine : IpAddr → Type 0
IsOfThisMachine a = MatchIp a IsLoopbackV4 IsLoopbackV6

-- no other machine can reach the address, or the nodes have a key
abbrev pub IsReachedWithKey : Seals → SocketAddr → Type 0
IsReachedWithKey s address = IsOfThisMachine (socket_ip address) ⊎ (key_list s.nodes ≢ [])
