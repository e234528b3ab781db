-- What a plan opens.
use Rattle.std.specs.Prelude.{◌≡◌, ℕ, Bool, List, [], ◌∷◌, None, Some, IfSome, IsTrue}
use Rattle.std.specs.declared.net.socket_addr.SocketAddr.{SocketAddr}
use Rattle.lk_disk.specs.Disk.{Disk}
use Rattle.lk_disk.specs.declared.device.Side.{Side}
use Rattle.lk_log.specs.Images.{seen}
use Rattle.lk_auth.specs.Seals.{key_list}
use Rattle.lk_pacing.specs.declared.pace.Pace.{Pace}
use Rattle.lk_pacing.specs.declared.pace.Pace.TheVariants.{Clock}
use Rattle.lk_transport.specs.Streams.{Stream}
use Rattle.lk_node_files.specs.Existing.{HasStore}
use Rattle.lk_node_setup.specs.Named.{IsNetworkOf}
use Rattle.lk_node_setup.specs.Ports.{misnamed}
use Rattle.lk_node_setup.specs.SelfProbes.{FindsUnreached, socket_value}
use Rattle.lk_node_setup.specs.declared.resources.NodePlan.{NodePlan}
use Rattle.lk_node_setup.specs.declared.resources.Resources.{Resources}

-- what the ticks of a node with these keys go by: the clock, or what was asked for if it has none
abbrev pub pace_with : List (List ℕ) → Pace → Pace
pace_with [] asked = asked
pace_with (key ∷ keys) asked = Clock

-- `is_text`, `is_store` and `is_bound` say which bytes the file of a path had, which device is that of the folder of a
-- path, where sums are asked for or not, and which socket is bound to an address. `honest` says that the device does
-- what it states, `disk` what it has, and `observable` that the socket reveals what it sends and finds
module _ {D S : Type 0} (is_text : List ℕ → List ℕ → Type 0) (is_store : List ℕ → Bool → D → Type 0)
    (is_bound : SocketAddr → S → Type 0) (honest : Type 0) (disk : D → Side → Disk) (observable : Type 0)
    (sent : S → List (SocketAddr × List ℕ)) (failures : S → ℕ) (incoming : S → Stream) where
  -- a socket was bound to this address, and then a probe found which port is not heard. At the port that the genesis
  -- names nothing was sent or received
  pub record HasProbed (plan : NodePlan) (address : SocketAddr) (r : Resources D S) : Type 0 where
    pub bound : S
    pub at_address : is_bound address bound
    pub finds : observable → FindsUnreached plan.header r.network (misnamed plan.header plan.port) r.unreached
        (socket_value sent failures incoming bound) (socket_value sent failures incoming r.socket)
    pub alike : misnamed plan.header plan.port ≡ None → r.socket ≡ bound
    pub some : IfSome r.unreached (λ port. misnamed plan.header plan.port ≡ Some port)

  -- these resources are those that the plan names: the device of its folder, with sums if it asks for them, which has a
  -- store if the plan wants an existing one, the hosts and keys of its files, the pace, and a socket at its port
  pub record AreOpenedFor (plan : NodePlan) (r : Resources D S) : Type 0 where
    pub address : SocketAddr
    pub network : IsNetworkOf is_text plan.header plan.port plan.options r.network address
    pub pace : r.pace ≡ pace_with (key_list r.network.seals.nodes) plan.pace
    pub device : is_store plan.folder.now plan.sums r.device
    pub existing : IsTrue plan.existing → honest → HasStore (seen (disk r.device))
    pub socket : HasProbed plan address r
